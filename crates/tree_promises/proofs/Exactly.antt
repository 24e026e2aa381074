-- The reading ends as 5, 6 or 7 exactly where that refusal is the first that is due. Each end of the reading has its description; two
-- descriptions are never of one reading, as the first place at which something is due is one. Assumes nothing.
use Prim.Native.Nat.{ℕ, zero, suc, ◌≤◌, ◌<◌}
use mathlib.Core.Path.{◌≡◌, refl, sym, ◌∙◌, ap, subst}
use mathlib.Core.Logic.{◌↔◌, inl, inr, ⊎_elim}
use mathlib.Core.Bool.{Bool, true, false}
use mathlib.Core.List.{List, [], ◌∷◌}
use native.Mathlib.Nat.{lt_of_not-le, eq-or-lt_of_le}
use native.Mathlib.Omega.{arith}
use lib.ListN.{length, drop, take-append-drop, get_or-eq_default}
use Rattle.laws.proofs.Laws.{clash}
use Rattle.grammars.specs.code.Actions.{End, read, bad, stopped, spent}
use Rattle.grammars.proofs.Acting as acting
use Rattle.forms.specs.code.Rules.{forms}
use Rattle.forms.specs.code.Picks.{predict}
use Rattle.forms.specs.Tree.{Row}
use Rattle.forms.specs.code.RuleActions.{State, Refusal, name_differs, too_deep, does, IsFile, Reading, state_rows}
use Rattle.forms.specs.code.Reading.{file_reading, BeginsFile}
use Rattle.forms.specs.Open.{open_from, role, after}
use Rattle.forms.specs.Closing.{Name, named, closes_at, closed_by, walk_over, unwalked, is_named_as}
use Rattle.forms.proofs.Meaning as meaning
use Rattle.forms.proofs.Opening as opening
use Rattle.forms.proofs.Closing as closing
use Rattle.one_tree.proofs.Only.{file_tree, files_have_trees, begin_alike, trees_are_read}
use Rattle.tree_promises.specs.Due.{NoFileDue, IsFileOf, NameDue, DepthDue, SomeDue, NoneBefore, NoFileFirst, NameFirst, DepthFirst}

true_false : {A : Type 0} (b : Bool) → b ≡ true → b ≡ false → A
true_false b p q = let z : ◌≡◌ {A = ℕ} 0 1 = cc in clash z

-- past the last element nothing is closed by name
closes_inside : (w : List ℕ) (k : ℕ) (name : Name) → closes_at w k ≡ named name → k < length w
closes_inside w k name q =
    lt_of_not-le (λ l.
    let e : closed_by (walk_over unwalked w k) 0 ≡ named name = ap (closed_by (walk_over unwalked w k)) (sym (get_or-eq_default w 0 l)) ∙ q in
    let z : ◌≡◌ {A = ℕ} 0 1 = cc in
    omega arith)

-- past the last element as many stand open as after it
open_past : (p d : ℕ) (w : List ℕ) (k : ℕ) → length w ≤ k → open_from p d w (suc k) ≡ open_from p d w k
unfolding open_from
open_past p d [] zero l = refl
open_past p d [] (suc k) l = refl
open_past p d (t ∷ w) zero l = absurd (omega arith)
open_past p d (t ∷ w) (suc k) l = open_past t (after (role p t) d) w k (omega arith)

-- a file's elements begin it, however many are taken
file_begins : (w : List ℕ) (j : ℕ) → IsFile w → BeginsFile w j
file_begins w j g = (drop j w, subst IsFile (sym (take-append-drop j w)) g)

-- where m elements begin a file, 5 is due at none of them
not_due : (w : List ℕ) (m j : ℕ) → m ≤ length w → BeginsFile w m → j < m → NoFileDue w j → ⊥
not_due w m j i b l (g, inl h) = h.1 ((begin_alike w (suc j)).0 (meaning.shorter w m (suc j) (omega arith) b))
not_due w m j i b l (g, inr h) = let z = h.0 in omega arith

same_place : (j k : ℕ) → (j < k → ⊥) → (k < j → ⊥) → j ≡ k
same_place j k p q =
    let a : k < suc j = lt_of_not-le p in
    let b : j < suc k = lt_of_not-le q in
    omega arith

module _ (alike : ℕ → ℕ → Bool) (w : List ℕ) where
  -- the first place at which something is due is one
  one_place : (j k : ℕ) → SomeDue alike w j → NoneBefore alike w j → SomeDue alike w k → NoneBefore alike w k → j ≡ k
  one_place j k d n d' n' = same_place j k (λ l. n' j (omega arith) d) (λ l. n k (omega arith) d')

  -- what each end of the reading says of the elements
  abbrev Described : End State Refusal → Type 0
  Described (read s) = (k : ℕ) → SomeDue alike w k → ⊥
  Described (bad k) = NoFileFirst alike w k
  Described (stopped zero r) = ⊥
  Described (stopped (suc k) name_differs) = NameFirst alike w k
  Described (stopped (suc k) too_deep) = DepthFirst alike w k
  Described spent = ⊥

  -- 6 and 7 are not due where the reading got past
  no_name : (o : End State Refusal) → file_reading alike w ≡ o → (j : ℕ) → closing.Compared o (suc j) → NameDue alike w j → ⊥
  no_name o e j m d = true_false (is_named_as alike d.0 j) (closing.names_agree alike w o e j d.0 d.1.0 m) d.1.1

  no_depth : (o : End State Refusal) → file_reading alike w ≡ o → (j : ℕ) → opening.Within o (suc j) → DepthDue w j → ⊥
  no_depth o e j m d = let l = opening.within alike w o e (suc j) m in let h = d.1 in omega arith

  read_described : (s : State) → file_reading alike w ≡ read s → Described (read s)
  read_described s e k (inl (b, inl h)) = h.1 ((begin_alike w (suc k)).0 (file_begins w (suc k) (acting.kinds forms predict (does alike) ((meaning.reads_files alike w s).0 e))))
  read_described s e k (inl (b, inr h)) = h.1 ((files_have_trees w).0 (acting.kinds forms predict (does alike) ((meaning.reads_files alike w s).0 e)))
  read_described s e k (inr (inl d)) = no_name (read s) e k tt d
  read_described s e k (inr (inr d)) = no_depth (read s) e k tt d

  -- none of the three is due among the first m elements, where they begin a file and the reading got past them
  none_before : (o : End State Refusal) → file_reading alike w ≡ o → (m : ℕ) → m ≤ length w → BeginsFile w m
      → ((j : ℕ) → j < m → closing.Compared o (suc j)) → ((j : ℕ) → j < m → opening.Within o (suc j)) → NoneBefore alike w m
  none_before o e m i b c p j l (inl d) = not_due w m j i b l d
  none_before o e m i b c p j l (inr (inl d)) = no_name o e j (c j l) d
  none_before o e m i b c p j l (inr (inr d)) = no_depth o e j (p j l) d

  bad_described : (k : ℕ) → file_reading alike w ≡ bad k → NoFileFirst alike w k
  bad_described k e =
      let f = meaning.first_wrong alike w k e in (
        ((begin_alike w k).0 f.1, ⊎_elim (λ z. inr (z, λ t. f.3 z ((files_have_trees w).1 t))) (λ l. inl (l, λ b. f.2 l ((begin_alike w (suc k)).1 b))) (eq-or-lt_of_le f.0)),
        none_before (bad k) e k f.0 f.1 (λ j l. omega arith) (λ j l. omega arith),
      )

  -- at the place of 6 its name is wrong
  pub name_due : (k : ℕ) → file_reading alike w ≡ stopped (suc k) name_differs → NameDue alike w k
  name_due k e =
      let r = closing.name_differs_at alike w (suc k) e in
      let x = r.1.0 in
      let z : r.0 ≡ k = omega arith in
      subst (NameDue alike w) z r.1.1

  name_described : (k : ℕ) → file_reading alike w ≡ stopped (suc k) name_differs → NameFirst alike w k
  name_described k e =
      let d = name_due k e in
      let i = closes_inside w k d.0 d.1.0 in
      let b = meaning.still_begins alike w (suc k) name_differs e in (
        d,
        not_due w (suc k) k (omega arith) b (omega arith),
        none_before (stopped (suc k) name_differs) e k (omega arith) (meaning.shorter w (suc k) k (omega arith) b) (λ j l. omega arith) (λ j l. omega arith),
      )

  -- at the place of 7 there is an element, as none before it left as many open
  depth_due : (k : ℕ) → file_reading alike w ≡ stopped (suc k) too_deep → DepthDue w k
  depth_due k e =
      let r = opening.too_deep_at alike w (suc k) e in
      let x = r.0 in
      let y = r.1 k (omega arith) in
      (lt_of_not-le (λ l. let z = open_past 0 0 w k l in omega arith), omega arith)

  depth_described : (k : ℕ) → file_reading alike w ≡ stopped (suc k) too_deep → DepthFirst alike w k
  depth_described k e =
      let d = depth_due k e in
      let i = d.0 in
      let b = meaning.still_begins alike w (suc k) too_deep e in (
        d,
        not_due w (suc k) k (omega arith) b (omega arith),
        no_name (stopped (suc k) too_deep) e k (omega arith),
        none_before (stopped (suc k) too_deep) e k (omega arith) (meaning.shorter w (suc k) k (omega arith) b) (λ j l. omega arith) (λ j l. omega arith),
      )

  described : (o : End State Refusal) → file_reading alike w ≡ o → Described o
  unfolding open_from
  described (read s) e = read_described s e
  described (bad k) e = bad_described k e
  described (stopped zero name_differs) e = let r = closing.name_differs_at alike w 0 e in let x = r.1.0 in omega arith
  described (stopped zero too_deep) e = let r = opening.too_deep_at alike w 0 e in let x = r.0 in omega arith
  described (stopped (suc k) name_differs) e = name_described k e
  described (stopped (suc k) too_deep) e = depth_described k e
  described spent e = meaning.always_answers alike w e

  pub no_file_exactly : (k : ℕ) → (file_reading alike w ≡ bad k) ↔ NoFileFirst alike w k
  no_file_exactly k = (bad_described k, λ f. go f (file_reading alike w) (described (file_reading alike w) refl))
    where
      go : NoFileFirst alike w k → (o : End State Refusal) → Described o → o ≡ bad k
      go f (read s) d = absurd (d k (inl f.0))
      go f (bad j) d = ap bad (one_place j k (inl d.0) d.1 (inl f.0) f.1)
      go f (stopped zero r) d = absurd d
      go f (stopped (suc j) name_differs) d =
          let z = one_place j k (inr (inl d.0)) d.2 (inl f.0) f.1 in
          absurd (d.1 (subst (NoFileDue w) (sym z) f.0))
      go f (stopped (suc j) too_deep) d =
          let z = one_place j k (inr (inr d.0)) d.3 (inl f.0) f.1 in
          absurd (d.1 (subst (NoFileDue w) (sym z) f.0))
      go f spent d = absurd d

  pub name_exactly : (k : ℕ) → (file_reading alike w ≡ stopped (suc k) name_differs) ↔ NameFirst alike w k
  name_exactly k = (name_described k, λ f. go f (file_reading alike w) (described (file_reading alike w) refl))
    where
      go : NameFirst alike w k → (o : End State Refusal) → Described o → o ≡ stopped (suc k) name_differs
      go f (read s) d = absurd (d k (inr (inl f.0)))
      go f (bad j) d =
          let z = one_place j k (inl d.0) d.1 (inr (inl f.0)) f.2 in
          absurd (f.1 (subst (NoFileDue w) z d.0))
      go f (stopped zero r) d = absurd d
      go f (stopped (suc j) name_differs) d =
          ap (λ (x : ℕ). stopped (suc x) name_differs) (one_place j k (inr (inl d.0)) d.2 (inr (inl f.0)) f.2)
      go f (stopped (suc j) too_deep) d =
          let z = one_place j k (inr (inr d.0)) d.3 (inr (inl f.0)) f.2 in
          absurd (d.2 (subst (NameDue alike w) (sym z) f.0))
      go f spent d = absurd d

  pub depth_exactly : (k : ℕ) → (file_reading alike w ≡ stopped (suc k) too_deep) ↔ DepthFirst alike w k
  depth_exactly k = (depth_described k, λ f. go f (file_reading alike w) (described (file_reading alike w) refl))
    where
      go : DepthFirst alike w k → (o : End State Refusal) → Described o → o ≡ stopped (suc k) too_deep
      go f (read s) d = absurd (d k (inr (inr f.0)))
      go f (bad j) d =
          let z = one_place j k (inl d.0) d.1 (inr (inr f.0)) f.3 in
          absurd (f.1 (subst (NoFileDue w) z d.0))
      go f (stopped zero r) d = absurd d
      go f (stopped (suc j) name_differs) d =
          let z = one_place j k (inr (inl d.0)) d.2 (inr (inr f.0)) f.3 in
          absurd (f.2 (subst (NameDue alike w) z d.0))
      go f (stopped (suc j) too_deep) d =
          ap (λ (x : ℕ). stopped (suc x) too_deep) (one_place j k (inr (inr d.0)) d.3 (inr (inr f.0)) f.3)
      go f spent d = absurd d

  -- the elements are read to their end exactly where none of the three is due
  pub read_exactly : ((k : ℕ) → SomeDue alike w k → ⊥) ↔ ((s : State) × Reading alike w s)
  read_exactly = (
    (λ f. go f (file_reading alike w) refl (described (file_reading alike w) refl)),
    λ r. read_described r.0 ((meaning.reads_files alike w r.0).1 r.1),
  )
    where
      go : ((k : ℕ) → SomeDue alike w k → ⊥) → (o : End State Refusal) → file_reading alike w ≡ o → Described o → (s : State) × Reading alike w s
      go f (read s) e d = (s, (meaning.reads_files alike w s).0 e)
      go f (bad j) e d = absurd (f j (inl d.0))
      go f (stopped zero r) e d = absurd d
      go f (stopped (suc j) name_differs) e d = absurd (f j (inr (inl d.0)))
      go f (stopped (suc j) too_deep) e d = absurd (f j (inr (inr d.0)))
      go f spent e d = absurd d

  -- what is read is a file with the rows for its tree, and a file is read
  pub reading_file : (s : State) → Reading alike w s → IsFileOf alike w (state_rows s)
  reading_file s r =
      let d = read_described s ((meaning.reads_files alike w s).1 r) in
      (file_tree.reads_trees alike w s r, λ k n. d k (inr (inl n)), λ k n. d k (inr (inr n)))

  pub file_reading_lem : (l : List Row) → IsFileOf alike w l → (s : State) × (Reading alike w s × (state_rows s ≡ l))
  file_reading_lem l f = ⊎_elim (λ r. r) (λ x. absurd (never x.0 x.1.0 (described (file_reading alike w) refl) x.1.1)) (trees_are_read alike w l f.0)
    where
      by : (k : ℕ) (r : Refusal) → Described (stopped k r) → ⊥
      by zero r d = d
      by (suc k) name_differs d = f.1 k d.0
      by (suc k) too_deep d = f.2 k d.0

      never : (k : ℕ) (r : Refusal) → Described (file_reading alike w) → file_reading alike w ≡ stopped k r → ⊥
      never k r d e = by k r (subst Described e d)
