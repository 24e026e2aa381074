-- The flags, a record at a time, and that in the end they are the records with a twin. Assumes nothing.
use mathlib.Core.Path.{◌≡◌, refl, sym, ap, ◌∙◌, subst}
use mathlib.Core.Bool.{Bool, true, false, not, ◌&&◌, false≢true}
use mathlib.Core.List.{List}
use mathlib.Core.Logic.{◌⊎◌, inl, inr, ⊎_elim}
use Prim.Native.Nat.{ℕ, zero, suc, ◌+◌, ◌-◌, ◌≤◌, ◌<◌}
use native.Mathlib.Decide.{ℕ_discrete}
use native.Mathlib.Omega.{arith}
use lib.Dec.{eqb}
use lib.ListN.{length, get_or, set, length-set}
use lib.Seq.{get_or-set_same, get_or-set_other}
use borrow.Author.Tests.{eqb-false, ne_eqb, not-true}
use Rattle.laws.proofs.Laws.{both_left, both_right}
use Rattle.records.specs.Counting.{one_if}
use Rattle.places.specs.Sizes.{most_pieces}
use Rattle.names.specs.code.Names.{share}
use Rattle.names.specs.code.Links.{records_in, any_from, own_of, another, twin_of, any_twin}
use Rattle.names.specs.code.Chains.{Twin, First, Flagging}
use Rattle.names.proofs.Firsts.{any_found, any_at, any_none}
use Rattle.names.proofs.Owning.{shared_owns, owns_shared, own_first}

module _ (own : List ℕ) (n : ℕ) where
  pub none_marked : (flags : List ℕ) → ((k : ℕ) → get_or flags k 0 ≡ 0) → Flagging own n 0 flags false
  none_marked flags z = record {
    small = λ k. omega (arith, z k);
    sound = λ k e. absurd (omega (arith, z k));
    complete = λ k f l e d. absurd (omega arith);
    some = λ e. absurd (false≢true e);
  }

  module _ (i : ℕ) (flags : List ℕ) (any : Bool) (m : Flagging own n i flags any) (inside : i < n) (f : ℕ) (is : f ≡ get_or own i 0) where
    -- a record that has no name, or is the first of its name
    pub mark_passes : (not (eqb f 0) && not (eqb f (i + 1))) ≡ false → Flagging own n (i + 1) flags any
    mark_passes t = record { small = m.small; sound = m.sound; complete = λ k g l e d. go k g l e d (ℕ_discrete k i); some = m.some }
      where
        stays : (g : ℕ) → f ≡ suc g → (i ≡ g → ⊥) → ⊥
        stays g e d =
            false≢true (sym t ∙ rw (ne_eqb f 0 (λ z. omega arith), ne_eqb f (i + 1) (λ z. d (omega arith))))

        go : (k g : ℕ) → k < i + 1 → get_or own k 0 ≡ suc g → (k ≡ g → ⊥) → Dec (k ≡ i) → (get_or flags k 0 ≡ 1) × (get_or flags g 0 ≡ 1) × (any ≡ true)
        go k g l e d (yes y) = absurd (stays g (is ∙ ap (λ (x : ℕ). get_or own x 0) (sym y) ∙ e) (λ z. d (y ∙ z)))
        go k g l e d (no y) = m.complete k g (omega arith) e d

    module _ (first : First own n) (size : length flags ≡ most_pieces) (most : n ≤ most_pieces) (t : (not (eqb f 0) && not (eqb f (i + 1))) ≡ true) where
      named : f ≡ 0 → ⊥
      named = eqb-false f 0 (not-true (eqb f 0) (both_left (not (eqb f 0)) (not (eqb f (i + 1))) t))

      pub mark_named : 1 ≤ f
      mark_named = let d = named in omega arith

      later : f ≡ i + 1 → ⊥
      later = eqb-false f (i + 1) (not-true (eqb f (i + 1)) (both_right (not (eqb f 0)) (not (eqb f (i + 1))) t))

      number : get_or own i 0 ≡ suc (f - 1)
      number = sym is ∙ positive f named
        where
          positive : (f : ℕ) → (f ≡ 0 → ⊥) → f ≡ suc (f - 1)
          positive f d = omega arith

      first_inside : f - 1 < n
      first_inside = (first i (f - 1) inside number).0

      pub mark_room : f - 1 < most_pieces
      mark_room = let a = first_inside in omega arith

      first_own : get_or own (f - 1) 0 ≡ suc (f - 1)
      first_own = (first i (f - 1) inside number).1

      differ : i ≡ f - 1 → ⊥
      differ z = later (next f z named)
        where
          next : (f : ℕ) → i ≡ f - 1 → (f ≡ 0 → ⊥) → f ≡ i + 1
          next f z d = omega arith

      twin_here : Twin own n i
      twin_here = record {
        inside = inside;
        other = f - 1;
        other_inside = first_inside;
        differs = differ;
        shared = number ∙ sym first_own;
        named = λ z. named (is ∙ z);
      }

      twin_first : Twin own n (f - 1)
      twin_first = record {
        inside = first_inside;
        other = i;
        other_inside = inside;
        differs = λ z. differ (sym z);
        shared = first_own ∙ sym number;
        named = λ z. absurd (omega (arith, first_own));
      }

      -- the flags when the record and the first of its name have theirs
      abbrev both : List ℕ
      both = set (set flags i 1) (f - 1) 1

      in_both : f - 1 < length (set flags i 1)
      in_both = let a = mark_room in omega (arith, length-set flags i 1)

      first_marked : get_or both (f - 1) 0 ≡ 1
      first_marked = get_or-set_same (set flags i 1) (f - 1) 1 0 in_both

      here_marked : get_or both i 0 ≡ 1
      here_marked = get_or-set_other (set flags i 1) (f - 1) i 1 0 differ ∙ get_or-set_same flags i 1 0 (omega arith)

      -- a word has its mark from now, or is as it was
      word : (k : ℕ) → ((get_or both k 0 ≡ 1) × Twin own n k) ⊎ (get_or both k 0 ≡ get_or flags k 0)
      word k = go (ℕ_discrete k (f - 1)) (ℕ_discrete k i)
        where
          go : Dec (k ≡ f - 1) → Dec (k ≡ i) → ((get_or both k 0 ≡ 1) × Twin own n k) ⊎ (get_or both k 0 ≡ get_or flags k 0)
          go (yes y) d = inl (ap (λ (x : ℕ). get_or both x 0) y ∙ first_marked, subst (Twin own n) (sym y) twin_first)
          go (no z) (yes y) = inl (ap (λ (x : ℕ). get_or both x 0) y ∙ here_marked, subst (Twin own n) (sym y) twin_here)
          go (no z) (no y) = inr (get_or-set_other (set flags i 1) (f - 1) k 1 0 z ∙ get_or-set_other flags i k 1 0 y)

      kept : (k : ℕ) → get_or flags k 0 ≡ 1 → get_or both k 0 ≡ 1
      kept k e = ⊎_elim (λ w. w.0) (λ w. w ∙ e) (word k)

      pub mark_takes : Flagging own n (i + 1) both true
      mark_takes = record {
        small = λ k. ⊎_elim (λ w. omega (arith, w.0)) (λ w. omega (arith, w, m.small k)) (word k);
        sound = λ k e. ⊎_elim (λ w. w.1) (λ w. m.sound k (sym w ∙ e)) (word k);
        complete = λ k g l e d. go k g l e d (ℕ_discrete k i);
        some = λ _. (i, twin_here);
      }
        where
          go : (k g : ℕ) → k < i + 1 → get_or own k 0 ≡ suc g → (k ≡ g → ⊥) → Dec (k ≡ i) → (get_or both k 0 ≡ 1) × (get_or both g 0 ≡ 1) × (true ≡ true)
          go k g l e d (yes y) =
              let z : suc g ≡ suc (f - 1) = sym e ∙ ap (λ (x : ℕ). get_or own x 0) y ∙ number in
              let w : g ≡ f - 1 = omega arith in
              (ap (λ (x : ℕ). get_or both x 0) y ∙ here_marked, ap (λ (x : ℕ). get_or both x 0) w ∙ first_marked, refl)
          go k g l e d (no y) = let c = m.complete k g (omega arith) e d in (kept k c.0, kept g c.1, refl)

  pub flags_whole : (i : ℕ) (flags : List ℕ) (any : Bool) → i ≤ n → n ≤ i → Flagging own n i flags any → Flagging own n n flags any
  flags_whole i flags any a b m = let z : i ≡ n = omega arith in subst (λ (k : ℕ). Flagging own n k flags any) z m

  -- each record with a twin is marked
  twin_marked : (flags : List ℕ) (any : Bool) (k : ℕ) → Flagging own n n flags any → First own n → Twin own n k → (get_or flags k 0 ≡ 1) × (any ≡ true)
  twin_marked flags any k m first t = go (get_or own k 0) refl t.named
    where
      go : (v : ℕ) → get_or own k 0 ≡ v → (get_or own k 0 ≡ 0 → ⊥) → (get_or flags k 0 ≡ 1) × (any ≡ true)
      go zero e d = absurd (d e)
      go (suc f) e d = at (ℕ_discrete k f)
        where
          at : Dec (k ≡ f) → (get_or flags k 0 ≡ 1) × (any ≡ true)
          at (yes y) =
              let c = m.complete t.other k t.other_inside (sym t.shared ∙ e ∙ ap suc (sym y)) (λ z. t.differs (sym z)) in (c.1, c.2)
          at (no y) = let c = m.complete k f t.inside e y in (c.0, c.2)

-- the flags are the records that share their name with another
module _ (text table items own : List ℕ) (n : ℕ) (all : n ≡ records_in items) (owned : (i : ℕ) → i < n → get_or own i 0 ≡ own_of text table items i) where
  pub owns_first : First own n
  owns_first i f l e =
      let w = own_first text table items i f (sym (owned i l) ∙ e) in
      let a = w.0 in
      let b : f < n = omega arith in
      (b, owned f b ∙ w.1)

  twin_shares : (k : ℕ) → Twin own n k → twin_of text table items k ≡ true
  unfolding twin_of
  twin_shares k t = go (own_of text table items k) refl
    where
      go : (v : ℕ) → own_of text table items k ≡ v → any_from (another (share text table items) k) 0 (records_in items) ≡ true
      go zero e = absurd (t.named (owned k t.inside ∙ e))
      go (suc f) e =
          let s = owns_shared text table items k t.other f e (sym (owned t.other t.other_inside) ∙ sym t.shared ∙ owned k t.inside ∙ e) in
          any_at (another (share text table items) k) 0 (records_in items) t.other (omega arith) (omega (arith, t.other_inside)) (rw (ne_eqb k t.other t.differs, s))

  shares_twin : (k : ℕ) → k < n → twin_of text table items k ≡ true → Twin own n k
  unfolding twin_of
  shares_twin k l e =
      let w = any_found (another (share text table items) k) 0 (records_in items) e in
      let b = w.2 in
      let i : w.0 < n = omega arith in
      let x = both_left (not (eqb k w.0)) (share text table items k w.0) w.3 in
      let y = both_right (not (eqb k w.0)) (share text table items k w.0) w.3 in
      let s = shared_owns text table items k w.0 (omega arith) y in record {
        inside = l;
        other = w.0;
        other_inside = i;
        differs = eqb-false k w.0 (not-true (eqb k w.0) x);
        shared = owned k l ∙ s.0 ∙ sym (owned w.0 i);
        named = λ z. s.1 (sym (owned k l) ∙ z);
      }

  module _ (flags : List ℕ) (any : Bool) (m : Flagging own n n flags any) where
    pub flags_twins : (k : ℕ) → k < n → get_or flags k 0 ≡ one_if (twin_of text table items k)
    flags_twins k l = go (twin_of text table items k) refl
      where
        go : (t : Bool) → twin_of text table items k ≡ t → get_or flags k 0 ≡ one_if (twin_of text table items k)
        go true e = rw e (twin_marked own n flags any k m owns_first (shares_twin k l e)).0
        go false e = rw e (none (get_or flags k 0) refl (m.small k))
          where
            none : (v : ℕ) → get_or flags k 0 ≡ v → get_or flags k 0 ≤ 1 → get_or flags k 0 ≡ 0
            none zero z h = z
            none (suc v) z h =
                let w : get_or flags k 0 ≡ 1 = omega arith in
                absurd (false≢true (sym e ∙ twin_shares k (m.sound k w)))

    pub flags_any : any ≡ any_twin text table items
    unfolding any_twin
    flags_any = go any refl
      where
        go : (t : Bool) → any ≡ t → any ≡ any_from (twin_of text table items) 0 (records_in items)
        go true e =
            let w = m.some e in
            let a = w.1.inside in
            e ∙ sym (any_at (twin_of text table items) 0 (records_in items) w.0 (omega arith) (omega arith) (twin_shares w.0 w.1))
        go false e =
            e ∙ sym (any_none (twin_of text table items) 0 (records_in items)
            (λ w. false≢true (sym e ∙ (twin_marked own n flags any w.0 m owns_first (shares_twin w.0 (let b = w.2 in omega arith) w.3)).1)))
