-- The claims of a name in a text: how many, and what the first one above a piece comes to. Assumes nothing.
use Prim.Native.Nat.{suc, ◌+◌}
use mathlib.Core.Path.{◌≡◌, refl, sym, ap, subst, ◌∙◌}
use mathlib.Core.Logic.{◌⊎◌, inl, inr}
use mathlib.Core.Bool.{Bool, true, false, not, cond, ◌||◌}
use mathlib.Core.List.{List, [], ◌∷◌, ◌++◌, append-nil, append_assoc}
use native.Mathlib.Nat.{zero-add, suc-add}
use lib.Dec.{eqb}
use lib.ListN.{length}
use Rattle.records.specs.Counting.{one_if}
use Rattle.values.specs.Values.{language_value}
use Rattle.meaning.specs.Elements.{Element, Piece}
use Rattle.meaning.specs.Names.{claims, language, claims_in, Done, claimed_above, first_above, use_of}
use Rattle.meaning.specs.code.PieceValues.{value_of, done_of, dones_from}
use Rattle.damage.specs.PlacedElements.{PlacedPiece, bare, bare_each}
use Rattle.damage.specs.Damage.{NoClaim}
use Rattle.damage.proofs.Lines.{Before, before_never, before_both}
use Rattle.damage.proofs.Cuts.{Ahead, ahead_never, ahead_both}
use Rattle.damage.proofs.Order.{passing}

pub each_append : (ps qs : List PlacedPiece) → bare_each (ps ++ qs) ≡ bare_each ps ++ bare_each qs
unfolding bare_each
each_append [] qs = refl
each_append (p ∷ ps) qs = ap (λ (l : List Piece). bare p ∷ l) (each_append ps qs)

-- what pieces come to, those of one list and then those of another
pub dones_append : (all : List Piece) (above : List Done) (ps qs : List Piece) → dones_from all above (ps ++ qs) ≡ dones_from all above ps ++ dones_from all (above ++ dones_from all above ps) qs
unfolding dones_from
dones_append all above [] qs = ap (λ (l : List Done). dones_from all l qs) (sym (append-nil above))
dones_append all above (p ∷ ps) qs =
    ap (λ (l : List Done). done_of all above p ∷ l)
    (dones_append all (above ++ done_of all above p ∷ []) ps qs
    ∙ ap (λ (l : List Done). dones_from all (above ++ done_of all above p ∷ []) ps ++ dones_from all l qs) (append_assoc above (done_of all above p ∷ []) (dones_from all (above ++ done_of all above p ∷ []) ps)))

pub dones_length : (all : List Piece) (above : List Done) (ps : List PlacedPiece) → length (dones_from all above (bare_each ps)) ≡ length ps
unfolding dones_from bare_each
dones_length all above [] = refl
dones_length all above (p ∷ ps) = ap suc (dones_length all (above ++ done_of all above (bare p) ∷ []) ps)

-- the pieces that claim x
abbrev pub claimants : Element → List PlacedPiece → List PlacedPiece
claimants x ps = passing (Ahead Before) (ahead_never Before before_never) (ahead_both Before before_both) (λ p. claims x (bare p)) ps

pub claims_count : (x : Element) (ps : List PlacedPiece) → claims_in x (bare_each ps) ≡ length (claimants x ps) + one_if (not (eqb (language x) 0))
unfolding claims_in bare_each
claims_count x [] = sym (zero-add (one_if (not (eqb (language x) 0))))
claims_count x (p ∷ ps) = go (claims x (bare p)) (claims_count x ps)
  where
    go : (b : Bool) → claims_in x (bare_each ps) ≡ length (claimants x ps) + one_if (not (eqb (language x) 0))
        → one_if b + claims_in x (bare_each ps) ≡ length (cond b (p ∷ claimants x ps) (claimants x ps)) + one_if (not (eqb (language x) 0))
    go true h = suc-add 0 (claims_in x (bare_each ps)) ∙ ap suc (zero-add (claims_in x (bare_each ps)) ∙ h) ∙ sym (suc-add (length (claimants x ps)) (one_if (not (eqb (language x) 0))))
    go false h = zero-add (claims_in x (bare_each ps)) ∙ h

-- the first of these that claims x
pub record FirstClaim (x : Element) (ps : List PlacedPiece) : Type 0 where
  pub early : List PlacedPiece
  pub claimant : PlacedPiece
  pub late : List PlacedPiece
  pub split : ps ≡ early ++ claimant ∷ late
  pub unclaimed : NoClaim x early
  pub claimed : claims x (bare claimant) ≡ true

pub first_claim : (x : Element) (ps : List PlacedPiece) → FirstClaim x ps ⊎ NoClaim x ps
first_claim x [] = inr (λ q h. absurd h)
first_claim x (p ∷ ps) = go (claims x (bare p)) refl (first_claim x ps)
  where
    front : (qs : List PlacedPiece) → claims x (bare p) ≡ false → NoClaim x qs → NoClaim x (p ∷ qs)
    front qs e h q (inl k) = subst (λ r. claims x (bare r) ≡ false) k e
    front qs e h q (inr k) = h q k

    go : (b : Bool) → claims x (bare p) ≡ b → FirstClaim x ps ⊎ NoClaim x ps → FirstClaim x (p ∷ ps) ⊎ NoClaim x (p ∷ ps)
    go true e h = inl (record { early = []; claimant = p; late = ps; split = refl; unclaimed = λ q k. absurd k; claimed = e })
    go false e (inl f) =
        inl (record {
          early = p ∷ f.early;
          claimant = f.claimant;
          late = f.late;
          split = ap (λ (l : List PlacedPiece). p ∷ l) f.split;
          unclaimed = front f.early e f.unclaimed;
          claimed = f.claimed;
        })
    go false e (inr h) = inr (front ps e h)

module _ (all : List Piece) (x : Element) where
  pub none_claimed : (above : List Done) (ps : List PlacedPiece) → NoClaim x ps → claimed_above x (dones_from all above (bare_each ps)) ≡ not (eqb (language x) 0)
  unfolding claimed_above dones_from bare_each
  none_claimed above [] h = refl
  none_claimed above (p ∷ ps) h = rw (h p (inl refl)) (none_claimed (above ++ done_of all above (bare p) ∷ []) ps (λ q k. h q (inr k)))

  pub none_first : (above : List Done) (ps : List PlacedPiece) → NoClaim x ps → first_above x (dones_from all above (bare_each ps)) ≡ language_value (language x)
  unfolding first_above dones_from bare_each
  none_first above [] h = refl
  none_first above (p ∷ ps) h = rw (h p (inl refl), first_above) (none_first (above ++ done_of all above (bare p) ∷ []) ps (λ q k. h q (inr k)))

  pub some_claimed : (above : List Done) (early : List PlacedPiece) (p : PlacedPiece) (late : List PlacedPiece) → claims x (bare p) ≡ true → claimed_above x (dones_from all above (bare_each (early ++ p ∷ late))) ≡ true
  unfolding claimed_above dones_from bare_each
  some_claimed above [] p late h = rw h
  some_claimed above (q ∷ early) p late h = go (claims x (bare q)) (some_claimed (above ++ done_of all above (bare q) ∷ []) early p late h)
    where
      go : (b : Bool) {c : Bool} → c ≡ true → (b || c) ≡ true
      go true e = refl
      go false e = e

  pub some_first : (above : List Done) (early : List PlacedPiece) (p : PlacedPiece) (late : List PlacedPiece) → NoClaim x early → claims x (bare p) ≡ true
      → first_above x (dones_from all above (bare_each (early ++ p ∷ late))) ≡ value_of all (above ++ dones_from all above (bare_each early)) (bare p)
  unfolding first_above dones_from bare_each
  some_first above [] p late n h = rw (h, first_above) (ap (λ (l : List Done). value_of all l (bare p)) (sym (append-nil above)))
  some_first above (q ∷ early) p late n h =
      rw (n q (inl refl), first_above)
      (some_first (above ++ done_of all above (bare q) ∷ []) early p late (λ r k. n r (inr k)) h
      ∙ ap (λ (l : List Done). value_of all l (bare p)) (append_assoc above (done_of all above (bare q) ∷ []) (dones_from all (above ++ done_of all above (bare q) ∷ []) (bare_each early))))

-- a name used in two texts
pub use_on : (all all' : List Piece) (ds ds' : List Done) (x : Element) → claims_in x all ≡ claims_in x all' → claimed_above x ds ≡ claimed_above x ds' → first_above x ds ≡ first_above x ds'
    → use_of all ds x ≡ use_of all' ds' x
unfolding use_of
use_on all all' ds ds' x c a f = rw (c, a, f)
