-- The search over the records of a text is the search over its pieces. Assumes nothing.
use Prim.Native.Nat.{ℕ, zero, suc, ◌+◌, ◌≤◌}
use mathlib.Core.Path.{◌≡◌, refl, sym, ap, ◌∙◌}
use mathlib.Core.Logic.{inl, inr}
use mathlib.Core.Bool.{Bool, true, false, false≢true}
use mathlib.Core.List.{List, [], ◌∷◌, ◌++◌}
use native.Mathlib.Omega.{arith}
use borrow.Author.Tests.{le-leb}
use lib.ListN.{length}
use Rattle.std.specs.Prelude.{Option, Some, None}
use Rattle.laws.proofs.Laws.{clash}
use Rattle.places.specs.Places.{cell_at}
use Rattle.same_names.specs.Alike.{spelled_as}
use Rattle.element_reading.specs.Rows.{rows_of}
use Rattle.element_reading.proofs.Promises.{stand_in_order}
use Rattle.records.specs.Records.{word_at, is_claim}
use Rattle.lookup.specs.Lookup.{is_named, claims_name, found_from}
use Rattle.operands.specs.code.Operands.{bytes_at}
use Rattle.meaning.specs.Elements.{Piece, at}
use Rattle.meaning.specs.Pieces.{pieces_of, class_of}
use Rattle.meaning.proofs.Tables.{element_at, cell_word, element_at_lem, row_within}
use Rattle.meaning.specs.Names.{own_name, Done}
use Rattle.meaning.proofs.Records.{pieces_done}
use Rattle.meaning.proofs.Places.{table_of}
use Rattle.meaning.proofs.Words.{piece_at, item_table}
use Rattle.meaning.proofs.Claims.{claim_at, name_element_lem, same_beside}
use Rattle.claims.specs.Claims.{ClaimsName, NoneClaims, FirstClaims}
use Rattle.claims.proofs.Spelling.{is_spelt}
use Rattle.claims.proofs.Begun.{is_claimed, is_claimed_lem, claims_is}

-- ---- a record claims the name exactly when its piece does

inside : (s : List ℕ) (z e : ℕ) → cell_at (table_of s z) e 1 + cell_at (table_of s z) e 2 ≤ length s
inside s z e = rw (cell_word (rows_of s) z e 1 (omega arith), cell_word (rows_of s) z e 2 (omega arith)) (row_within (rows_of s) 0 (length s) e (stand_in_order s))

named_at : (s : List ℕ) (z e : ℕ) (name : List ℕ) → is_named s (table_of s z) e name ≡ is_spelt name (element_at s (table_of s z) e)
unfolding is_named spelled_as element_at bytes_at
named_at s z e name = rw (le-leb (cell_at (table_of s z) e 1 + cell_at (table_of s z) e 2) (length s) (inside s z e))

module _ (s : List ℕ) (z y : ℕ) (ds : List Done) (cuts : pieces_done ds ≡ pieces_of s) (name : List ℕ) where
  pub claims_at : (j : ℕ) → claims_name s (table_of s z) name (item_table ds y) j ≡ is_claimed name (piece_at (pieces_of s) j)
  unfolding claims_name
  claims_at j =
      rw (claim_at s z y ds cuts j)
      (same_beside (is_claim (class_of (piece_at (pieces_of s) j))) (is_named s (table_of s z) (word_at (item_table ds y) j 3) name) (is_spelt name (own_name (piece_at (pieces_of s) j)))
      (λ h. named_at s z (word_at (item_table ds y) j 3) name
      ∙ ap (is_spelt name) (element_at_lem s (rows_of s) z (word_at (item_table ds y) j 3) ∙ name_element_lem s z y ds cuts j h)))

-- ---- the first that claims it

-- of pieces, of which the first has number j
abbrev pub first_of : List ℕ → List Piece → ℕ → Option ℕ
first_of name [] j = None
first_of name (p ∷ ps) j = elim (is_claimed name p) [ true ↦ Some j | false ↦ first_of name ps (suc j) ]

empty_none : (name : List ℕ) → ClaimsName name [] → ⊥
unfolding at
empty_none name (inl e, h) = let z : ◌≡◌ {A = ℕ} 0 53 = e in omega arith
empty_none name (inr e, h) = let z : ◌≡◌ {A = ℕ} 0 129 = e in omega arith

empty_not : (name : List ℕ) → is_claimed name [] ≡ false
empty_not name = go (is_claimed name []) refl
  where
    go : (b : Bool) → is_claimed name [] ≡ b → b ≡ false
    go true e = absurd (empty_none name (is_claimed_lem name [] e))
    go false e = refl

none_first : (f : ℕ → Bool) (j m : ℕ) → ((k : ℕ) → f (j + k) ≡ false) → found_from f j m ≡ None
unfolding found_from
none_first f j zero h = refl
none_first f j (suc m) h =
    let o : j ≡ j + 0 = omega arith in
    let e : f j ≡ false = ap f o ∙ h 0 in
    rw (e, found_from) (none_first f (suc j) m (λ k. let n : suc j + k ≡ j + suc k = omega arith in ap f n ∙ h (suc k)))

pub first_of_lem : (name : List ℕ) (f : ℕ → Bool) (ps : List Piece) (j m : ℕ) → length ps ≤ m → ((k : ℕ) → f (j + k) ≡ is_claimed name (piece_at ps k)) → found_from f j m ≡ first_of name ps j
unfolding found_from
first_of_lem name f [] j m l h = none_first f j m (λ k. h k ∙ empty_not name)
first_of_lem name f (p ∷ ps) j zero l h = absurd (omega arith)
first_of_lem name f (p ∷ ps) j (suc m) l h =
    let o : j ≡ j + 0 = omega arith in
    go (is_claimed name p) (ap f o ∙ h 0) (first_of_lem name f ps (suc j) m (omega arith) (λ k. let n : suc j + k ≡ j + suc k = omega arith in ap f n ∙ h (suc k)))
  where
    go : (b : Bool) → f j ≡ b → found_from f (suc j) m ≡ first_of name ps (suc j) → found_from f j (suc m) ≡ elim b [ true ↦ Some j | false ↦ first_of name ps (suc j) ]
    go true e r = rw (e, found_from)
    go false e r = rw (e, found_from) r

-- ---- what the search says, and that it says no less

pub at_same : (a b : ℕ) → Some a ≡ Some b → a ≡ b
at_same a b e = cc

module _ (name : List ℕ) where
  -- the first of pieces, of which the first has number j
  abbrev From : List Piece → ℕ → ℕ → Type 0
  From ps j k = (i : ℕ) × (j + i ≡ k) × FirstClaims name ps i

  none_front : (p : Piece) (ps : List Piece) → (ClaimsName name p → ⊥) → NoneClaims name ps → NoneClaims name (p ∷ ps)
  none_front p ps un h = (un, h)

  further : (p : Piece) (ps : List Piece) (j k : ℕ) → (ClaimsName name p → ⊥) → From ps (suc j) k → From (p ∷ ps) j k
  further p ps j k un (i, e, f) = (
    suc i,
    omega arith,
    record {
      before = p ∷ f.before;
      piece = f.piece;
      after = f.after;
      split = ap (λ (l : List Piece). p ∷ l) f.split;
      number = ap suc f.number;
      claimed = f.claimed;
      unclaimed = none_front p f.before un f.unclaimed;
    },
  )

  not_claimed : (p : Piece) → is_claimed name p ≡ false → ClaimsName name p → ⊥
  not_claimed p e c = false≢true (sym e ∙ claims_is name p c)

  claimed_not : (p : Piece) → (ClaimsName name p → ⊥) → is_claimed name p ≡ false
  claimed_not p un = go (is_claimed name p) refl
    where
      go : (b : Bool) → is_claimed name p ≡ b → b ≡ false
      go true e = absurd (un (is_claimed_lem name p e))
      go false e = refl

  pub at_first : (ps : List Piece) (j k : ℕ) → first_of name ps j ≡ Some k → From ps j k
  at_first [] j k h = let z : ◌≡◌ {A = ℕ} 0 1 = cc in clash z
  at_first (p ∷ ps) j k h = go (is_claimed name p) refl h (at_first ps (suc j) k)
    where
      go : (b : Bool) → is_claimed name p ≡ b → elim b [ true ↦ Some j | false ↦ first_of name ps (suc j) ] ≡ Some k → (first_of name ps (suc j) ≡ Some k → From ps (suc j) k) → From (p ∷ ps) j k
      go true e q ih =
          let z = at_same j k q in
          (0, omega arith, record { before = []; piece = p; after = ps; split = refl; number = refl; claimed = is_claimed_lem name p e; unclaimed = tt })
      go false e q ih = further p ps j k (not_claimed p e) (ih q)

  pub first_at_lem : (before : List Piece) (p : Piece) (after : List Piece) (j : ℕ) → NoneClaims name before → ClaimsName name p → first_of name (before ++ p ∷ after) j ≡ Some (j + length before)
  first_at_lem [] p after j n c = let o : j ≡ j + 0 = omega arith in rw (claims_is name p c, first_of) (ap Some o)
  first_at_lem (q ∷ before) p after j n c =
      let o : suc j + length before ≡ j + suc (length before) = omega arith in
      rw (claimed_not q n.0, first_of) (first_at_lem before p after (suc j) n.1 c ∙ ap Some o)

  pub nothing_none : (ps : List Piece) (j : ℕ) → first_of name ps j ≡ None → NoneClaims name ps
  nothing_none [] j h = tt
  nothing_none (p ∷ ps) j h = go (is_claimed name p) refl h (nothing_none ps (suc j))
    where
      go : (b : Bool) → is_claimed name p ≡ b → ◌≡◌ {A = Option ℕ} (elim b [ true ↦ Some j | false ↦ first_of name ps (suc j) ]) None → (first_of name ps (suc j) ≡ None → NoneClaims name ps) → NoneClaims name (p ∷ ps)
      go true e q ih = let z : ◌≡◌ {A = ℕ} 0 1 = cc in clash z
      go false e q ih = (not_claimed p e, ih q)

  pub none_nothing : (ps : List Piece) (j : ℕ) → NoneClaims name ps → first_of name ps j ≡ None
  none_nothing [] j n = refl
  none_nothing (p ∷ ps) j n = rw (claimed_not p n.0, first_of) (none_nothing ps (suc j) n.1)
