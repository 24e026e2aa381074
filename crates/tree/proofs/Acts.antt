-- What each action of the code makes of what the arrays hold is what the action makes of the state. Assumes nothing.
use Rattle.std.specs.Prelude.{Ok, Err}
use Prim.Native.Nat.{ℕ, zero, suc, ◌+◌, ◌*◌, ◌-◌, ◌≤◌, ◌<◌}
use mathlib.Core.Path.{◌≡◌, refl, sym, ◌∙◌, ap, ap₂, subst}
use mathlib.Core.Bool.{Bool, true, false, cond}
use mathlib.Core.List.{List, [], ◌∷◌}
use native.Mathlib.Omega.{arith}
use lib.ListN.{length, get_or, drop, set, length-set, length-drop}
use lib.Seq.{drop-drop, drop-set-add, get_or-drop, get_or-set_same, get_or-set_other, sets}
use borrow.Author.Tests.{lt-ltb, le-ltb, le-leb}
use Rattle.grammars.specs.code.Actions.{Step, go, stop}
use Rattle.forms.specs.code.RuleActions.{State, Refusal, name_differs, fresh, top, on_top, joined, marked, named, rowed, frame_is_named, does}
use Rattle.forms.proofs.Nesting.{top_size, joined_less, joined_few}
use Rattle.places.specs.declared.ElementNumber.{ElementNumber}
use Rattle.refusals.specs.declared.StrictRefusal.TheVariants as refusal
use Rattle.forms.specs.RowWords.{row_at}
use Rattle.tree.specs.code.Held.{Frames, Held, ActionDone, used_after, pick_used, Did}
use Rattle.tree.proofs.Lists.{four_pushed}
use Rattle.tree.proofs.Holding as holding

pub sets_below : (vs l : List ℕ) (i j : ℕ) → j < i → get_or (sets l i vs) j 0 ≡ get_or l j 0
sets_below [] l i j h = refl
sets_below (v ∷ vs) l i j h = sets_below vs (set l i v) (suc i) j (omega arith) ∙ get_or-set_other l i j v 0 (λ e. absurd (omega arith))

sets_get : (vs l : List ℕ) (i j : ℕ) → i + length vs ≤ length l → j < length vs → get_or (sets l i vs) (i + j) 0 ≡ get_or vs j 0
sets_get [] l i j h m = absurd (omega arith)
sets_get (v ∷ vs) l i zero h m =
    let z : i + 0 ≡ i = omega arith in
    ap (λ (n : ℕ). get_or (sets (set l i v) (suc i) vs) n 0) z ∙ sets_below vs (set l i v) (suc i) i (omega arith) ∙ get_or-set_same l i v 0 (omega arith)
sets_get (v ∷ vs) l i (suc j) h m =
    let z : i + suc j ≡ suc i + j = omega arith in
    ap (λ (n : ℕ). get_or (sets (set l i v) (suc i) vs) n 0) z ∙ sets_get vs (set l i v) (suc i) j (simp length-set (omega arith)) (omega arith)

row_stored : (c : List ℕ) (u f i n s o : ℕ) → 5 * u + 5 ≤ length c
    → row_at (sets c (5 * u) (f ∷ i ∷ n ∷ s ∷ o ∷ [])) u ≡ record { form = f; first = i; count = n; rows = s; operator = o }
row_stored c u f i n s o l =
    let z : 5 * u ≡ 5 * u + 0 = omega arith in
    λ j. record {
      form = (ap (λ (m : ℕ). get_or (sets c (5 * u) (f ∷ i ∷ n ∷ s ∷ o ∷ [])) m 0) z ∙ sets_get (f ∷ i ∷ n ∷ s ∷ o ∷ []) c (5 * u) 0 l (omega arith)) j;
      first = sets_get (f ∷ i ∷ n ∷ s ∷ o ∷ []) c (5 * u) 1 l (omega arith) j;
      count = sets_get (f ∷ i ∷ n ∷ s ∷ o ∷ []) c (5 * u) 2 l (omega arith) j;
      rows = sets_get (f ∷ i ∷ n ∷ s ∷ o ∷ []) c (5 * u) 3 l (omega arith) j;
      operator = sets_get (f ∷ i ∷ n ∷ s ∷ o ∷ []) c (5 * u) 4 l (omega arith) j;
    }

pub seven : (a : ℕ) → (a ≡ 0 → ⊥) → (a ≡ 1 → ⊥) → (a ≡ 2 → ⊥) → (a ≡ 3 → ⊥) → (a ≡ 4 → ⊥) → (a ≡ 5 → ⊥) → (a ≡ 6 → ⊥) → 7 ≤ a
seven zero d0 d1 d2 d3 d4 d5 d6 = absurd (d0 refl)
seven (suc zero) d0 d1 d2 d3 d4 d5 d6 = absurd (d1 refl)
seven (suc (suc zero)) d0 d1 d2 d3 d4 d5 d6 = absurd (d2 refl)
seven (suc (suc (suc zero))) d0 d1 d2 d3 d4 d5 d6 = absurd (d3 refl)
seven (suc (suc (suc (suc zero)))) d0 d1 d2 d3 d4 d5 d6 = absurd (d4 refl)
seven (suc (suc (suc (suc (suc zero))))) d0 d1 d2 d3 d4 d5 d6 = absurd (d5 refl)
seven (suc (suc (suc (suc (suc (suc zero)))))) d0 d1 d2 d3 d4 d5 d6 = absurd (d6 refl)
seven (suc (suc (suc (suc (suc (suc (suc a))))))) d0 d1 d2 d3 d4 d5 d6 = at_least a
  where
    at_least : (a : ℕ) → 7 ≤ suc (suc (suc (suc (suc (suc (suc a))))))
    at_least a = omega arith

by_seven : (a : ℕ) → 7 ≤ a → a ≡ suc (suc (suc (suc (suc (suc (suc (a - 7)))))))
by_seven a h = omega arith

-- the innermost frame's name
pub nameless : (alike : ℕ → ℕ → Bool) (n k : ℕ) → n ≡ 0 → false ≡ frame_is_named alike n (k - 1)
nameless alike n k e = sym (ap (λ (x : ℕ). frame_is_named alike x (k - 1)) e)

pub named_by : (alike : ℕ → ℕ → Bool) (n k j : ℕ) (b : Bool) → (n ≡ 0 → ⊥) → j ≡ k - 1 → b ≡ alike (n - 1) j → b ≡ frame_is_named alike n (k - 1)
named_by alike zero k j b d q e = absurd (d refl)
named_by alike (suc n) k j b d q e = let z : suc n - 1 ≡ n = omega arith in e ∙ ap₂ alike z q

module _ (frames cells next heads : List ℕ) (fp used depth k : ℕ) (alike : ℕ → ℕ → Bool) (s : State) (held : Held frames cells next heads fp used s.frames) (deep : s.depth ≡ depth) where
  abbrev pub After : Did → List ℕ → List ℕ → List ℕ → List ℕ → ℕ → Type 0
  After r f c n h a = ActionDone r f c n h (used_after a used) k (does alike a k s)

  pub act_opens : (a : ℕ) (F : List ℕ) → a ≡ 0 → 4 ≤ fp → fp ≤ length frames → F ≡ set (set (set (set frames (fp - 4) k) (fp - 4 + 1) k) (fp - 4 + 2) used) (fp - 4 + 3) 0
      → After (Ok (record { fp = fp - 4; depth = depth; used = used })) F cells next heads a
  unfolding does
  act_opens a F z l m q =
      let e : drop (fp - 4) F ≡ k ∷ k ∷ used ∷ 0 ∷ drop fp frames = ap (drop (fp - 4)) q ∙ four_pushed frames (fp - 4) fp k k used 0 (omega arith) m in
      let n : length F ≡ length frames = ap length q ∙ simp length-set in
      let rm = held.room in
      subst (After (Ok (record { fp = fp - 4; depth = depth; used = used })) F cells next heads) (sym z) (
        record {
          framed = subst (λ (x : List ℕ). Frames cells next heads used x (fresh k ∷ s.frames)) (sym e) (holding.framed_opens k held.framed);
          room = omega arith;
          within = held.within;
          bare = held.bare;
        },
        deep,
        refl,
      )

  pub act_closes : (a : ℕ) → a ≡ 1 → fp + 8 ≤ length frames → After (Ok (record { fp = fp + 4; depth = depth; used = used })) frames cells next heads a
  unfolding does
  act_closes a z l =
      let rm = held.room in
      subst (After (Ok (record { fp = fp + 4; depth = depth; used = used })) frames cells next heads) (sym z) (
        record {
          framed = subst (λ (x : List ℕ). Frames cells next heads used x (joined s.frames)) (drop-drop 4 fp frames)
              (holding.framed_closes (simp length-drop (omega arith)) held.framed);
          room = omega (arith, joined_less s.frames (omega arith));
          within = held.within;
          bare = held.bare;
        },
        deep,
        refl,
      )

  pub act_last : (a : ℕ) → a ≡ 1 → length frames < fp + 8 → After (Ok (record { fp = fp; depth = depth; used = used })) frames cells next heads a
  unfolding does
  act_last a z l =
      let rm = held.room in
      subst (After (Ok (record { fp = fp; depth = depth; used = used })) frames cells next heads) (sym z) (
        record {
          framed = holding.framed_last (simp length-drop (omega arith)) held.framed;
          room = omega (arith, joined_few s.frames (omega arith));
          within = held.within;
          bare = held.bare;
        },
        deep,
        refl,
      )

  pub act_marks : (a r : ℕ) → a ≡ 2 → r ≡ k - 1 → After (Ok (record { fp = fp; depth = depth; used = used })) (set frames (fp + 1) r) cells next heads a
  unfolding does
  act_marks a r z q =
      let rm = held.room in
      let n : length (set frames (fp + 1) r) ≡ length frames = simp length-set in
      subst (After (Ok (record { fp = fp; depth = depth; used = used })) (set frames (fp + 1) r) cells next heads) (sym z) (
        record {
          framed = subst (λ (x : ℕ). Frames cells next heads used (drop fp (set frames (fp + 1) r)) (on_top (marked x) s.frames)) q
              (subst (λ (x : List ℕ). Frames cells next heads used x (on_top (marked r) s.frames)) (sym (drop-set-add fp frames 1 r)) (holding.framed_marks r held.framed));
          room = omega (arith, top_size (marked (k - 1)) s.frames);
          within = held.within;
          bare = held.bare;
        },
        deep,
        refl,
      )

  pub act_names : (a : ℕ) → a ≡ 3 → After (Ok (record { fp = fp; depth = depth; used = used })) (set frames (fp + 3) k) cells next heads a
  unfolding does
  act_names a z =
      let rm = held.room in
      let n : length (set frames (fp + 3) k) ≡ length frames = simp length-set in
      subst (After (Ok (record { fp = fp; depth = depth; used = used })) (set frames (fp + 3) k) cells next heads) (sym z) (
        record {
          framed = subst (λ (x : List ℕ). Frames cells next heads used x (on_top (named k) s.frames)) (sym (drop-set-add fp frames 3 k)) (holding.framed_names k held.framed);
          room = omega (arith, top_size (named k) s.frames);
          within = held.within;
          bare = held.bare;
        },
        deep,
        refl,
      )

  -- by the name of the innermost frame
  judged : (b : Bool) → b ≡ frame_is_named alike (get_or frames (fp + 3) 0) (k - 1) → does alike 4 k s ≡ cond b (go s) (stop name_differs)
  unfolding does
  judged b q =
      let e : (top s.frames).name ≡ get_or frames (fp + 3) 0 = sym (holding.top_name held.framed) ∙ get_or-drop fp frames 3 0 in
      ap (λ (x : Bool). cond x (go s) (stop name_differs)) (ap (λ (x : ℕ). frame_is_named alike x (k - 1)) e ∙ sym q)

  pub act_same : (a : ℕ) (b : Bool) → a ≡ 4 → b ≡ frame_is_named alike (get_or frames (fp + 3) 0) (k - 1) → b ≡ true
      → After (Ok (record { fp = fp; depth = depth; used = used })) frames cells next heads a
  act_same a b z q h =
      subst (After (Ok (record { fp = fp; depth = depth; used = used })) frames cells next heads) (sym z)
      (subst (λ (x : Step State Refusal). ActionDone (Ok (record { fp = fp; depth = depth; used = used })) frames cells next heads (used_after 4 used) k x) (sym (judged true (sym h ∙ q)))
      (held, deep, refl))

  pub act_differs : (a : ℕ) (b : Bool) (e : ElementNumber) → a ≡ 4 → b ≡ frame_is_named alike (get_or frames (fp + 3) 0) (k - 1) → b ≡ false → e.0 ≡ k - 1
      → After (Err (refusal.NameDiffers e)) frames cells next heads a
  act_differs a b e z q h i =
      subst (After (Err (refusal.NameDiffers e)) frames cells next heads) (sym z)
      (subst (λ (x : Step State Refusal). ActionDone (Err (refusal.NameDiffers e)) frames cells next heads (used_after 4 used) k x) (sym (judged false (sym h ∙ q)))
      (ap (λ (x : ℕ). refusal.NameDiffers (record { 0 = x })) i))

  pub act_deeper : (a : ℕ) → a ≡ 5 → depth < 32 → After (Ok (record { fp = fp; depth = depth + 1; used = used })) frames cells next heads a
  unfolding does
  act_deeper a z l =
      subst (After (Ok (record { fp = fp; depth = depth + 1; used = used })) frames cells next heads) (sym z)
      (rw (lt-ltb s.depth 32 (omega arith)) (held, ap (λ (x : ℕ). x + 1) deep, refl))

  pub act_deep : (a : ℕ) (e : ElementNumber) → a ≡ 5 → 32 ≤ depth → e.0 ≡ k - 1 → After (Err (refusal.TooDeep e)) frames cells next heads a
  unfolding does
  act_deep a e z l i =
      subst (After (Err (refusal.TooDeep e)) frames cells next heads) (sym z)
      (rw (le-ltb s.depth 32 (omega arith)) (ap (λ (x : ℕ). refusal.TooDeep (record { 0 = x })) i))

  pub act_shallower : (a r : ℕ) → a ≡ 6 → r ≡ depth - 1 → After (Ok (record { fp = fp; depth = r; used = used })) frames cells next heads a
  unfolding does
  act_shallower a r z q =
      subst (After (Ok (record { fp = fp; depth = r; used = used })) frames cells next heads) (sym z)
      (held, ap (λ (x : ℕ). x - 1) deep ∙ sym q, refl)

  abbrev first_word : ℕ
  first_word = get_or frames fp 0

  abbrev base_word : ℕ
  base_word = get_or frames (fp + 2) 0

  pub act_row : (a : ℕ) (c' n' h' : List ℕ) → (a ≡ 0 → ⊥) → (a ≡ 1 → ⊥) → (a ≡ 2 → ⊥) → (a ≡ 3 → ⊥) → (a ≡ 4 → ⊥) → (a ≡ 5 → ⊥) → (a ≡ 6 → ⊥)
      → base_word ≤ used → fp + 4 ≤ length frames → 5 * used + 5 ≤ length cells → used < length next → used + 1 < length heads
      → c' ≡ sets cells (5 * used) ((a - 7) ∷ first_word ∷ (k - first_word) ∷ (used - base_word + 1) ∷ get_or frames (fp + 1) 0 ∷ [])
      → n' ≡ set next used (get_or heads base_word 0) → h' ≡ set (set heads base_word (used + 1)) (used + 1) 0
      → After (Ok (record { fp = fp; depth = depth; used = used + 1 })) frames c' n' h' a
  unfolding does
  act_row a c' n' h' d0 d1 d2 d3 d4 d5 d6 lb lf lc ln lh qc qn qh =
      let i : ℕ = first_word in
      let o : ℕ = get_or frames (fp + 1) 0 in
      let b : ℕ = base_word in
      let n : ℕ = k - i in
      let m : ℕ = used - b + 1 in
      let z : a ≡ suc (suc (suc (suc (suc (suc (suc (a - 7))))))) = by_seven a (seven a d0 d1 d2 d3 d4 d5 d6) in
      let rm = held.room in
      let f : ℕ = a - 7 in
      let C : List ℕ = sets cells (5 * used) (f ∷ i ∷ n ∷ m ∷ o ∷ []) in
      let w0 : get_or (drop fp frames) 0 0 ≡ i = get_or-drop fp frames 0 0 ∙ ap (λ (x : ℕ). get_or frames x 0) (plain fp) in
      let w1 : get_or (drop fp frames) 1 0 ≡ o = get_or-drop fp frames 1 0 in
      let w2 : get_or (drop fp frames) 2 0 ≡ b = get_or-drop fp frames 2 0 in
      let r : row_at C used ≡ record { form = f; first = get_or (drop fp frames) 0 0; count = k - get_or (drop fp frames) 0 0; rows = used - get_or (drop fp frames) 2 0 + 1; operator = get_or (drop fp frames) 1 0 } =
      row_stored cells used f i n m o lc
      ∙ (λ j. record { form = f; first = sym w0 j; count = ap (λ (x : ℕ). k - x) (sym w0) j; rows = ap (λ (x : ℕ). used - x + 1) (sym w2) j; operator = sym w1 j }) in
      let fr : Frames C (set next used (get_or heads b 0)) (set (set heads b (used + 1)) (used + 1) 0) (used + 1) (drop fp frames) (on_top (rowed f k) s.frames) =
      holding.framed_row cells C next heads used b (λ j l. sets_below (f ∷ i ∷ n ∷ m ∷ o ∷ []) cells (5 * used) j l) ln lh lb held.within held.bare f k refl (sym w2) held.framed
      (simp length-drop (omega arith)) r in
      let H : Held frames C (set next used (get_or heads b 0)) (set (set heads b (used + 1)) (used + 1) 0) fp (used + 1) (on_top (rowed f k) s.frames) =
      record {
        framed = fr;
        room = omega (arith, top_size (rowed f k) s.frames);
        within = holding.within_put cells C next heads used b (λ j l. sets_below (f ∷ i ∷ n ∷ m ∷ o ∷ []) cells (5 * used) j l) ln lh lb held.within held.bare;
        bare = holding.bare_put cells C next heads used b (λ j l. sets_below (f ∷ i ∷ n ∷ m ∷ o ∷ []) cells (5 * used) j l) ln lh lb held.within held.bare;
      } in
      let P : List ℕ → List ℕ → List ℕ → Type 0 = λ x y v. After (Ok (record { fp = fp; depth = depth; used = used + 1 })) frames x y v a in
      subst (λ x. P x n' h') (sym qc)
      (subst (λ y. P C y h') (sym qn)
      (subst (λ v. P C (set next used (get_or heads b 0)) v) (sym qh)
      (subst (After (Ok (record { fp = fp; depth = depth; used = used + 1 })) frames C (set next used (get_or heads b 0)) (set (set heads b (used + 1)) (used + 1) 0)) (sym z) (H, deep, grown (a - 7)))))
    where
      plain : (x : ℕ) → x + 0 ≡ x
      plain x = omega arith

      grown : (x : ℕ) → used + 1 ≡ used_after (suc (suc (suc (suc (suc (suc (suc x))))))) used
      grown x = sym (ap (λ (t : Bool). pick_used t used) (le-leb 7 (suc (suc (suc (suc (suc (suc (suc x))))))) (omega arith)))
