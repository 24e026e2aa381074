-- What a record's own number is, in the code's terms, and what it says of records that share a name. Assumes nothing.
use mathlib.Core.Path.{◌≡◌, refl, sym, ap, ◌∙◌}
use mathlib.Core.Bool.{Bool, true, false, cond, ◌&&◌, false≢true}
use mathlib.Core.List.{List}
use Prim.Native.Nat.{ℕ, suc, ◌<◌, min}
use native.Mathlib.Omega.{arith}
use lib.ListN.{length, get_or}
use Rattle.laws.proofs.Laws.{both_left, both_right}
use Rattle.same_names.specs.Alike.{same_name}
use Rattle.same_names.proofs.Sameness.{same_flips, same_goes_on}
use Rattle.records.specs.Records.{word_at, is_claim}
use Rattle.pieces.specs.Columns as column
use Rattle.names.specs.code.Names.{share}
use Rattle.names.specs.code.Links.{records_in, claims_element, link_of, own_of, filled}
use Rattle.names.proofs.Tables.{filled_at}
use Rattle.names.proofs.Firsts.{first_found, first_none, first_same}

module _ (text table items : List ℕ) (i class : ℕ) (x : Bool) (u : class ≡ word_at items i column.class) (v : x ≡ is_claim class) where
  pub own_claim : (e r : ℕ) → x ≡ true → e ≡ word_at items i column.name → r ≡ link_of text table items e → r ≡ own_of text table items i
  unfolding own_of
  own_claim e r h w q = rw (← u, ← v, h, ← w) q

  -- the links reach the name's element
  pub own_linked : (rows e m : ℕ) (links : List ℕ) → x ≡ true → e ≡ word_at items i column.name → links ≡ filled (link_of text table items) rows (length links) → m ≡ min rows (length links) → e < m → get_or links e 0 ≡ own_of text table items i
  own_linked rows e m links h w f q l =
      own_claim e (get_or links e 0) h w (ap (λ (t : List ℕ). get_or t e 0) f ∙ filled_at (link_of text table items) rows (length links) e (omega arith) (omega arith))

  pub own_none : x ≡ false → 0 ≡ own_of text table items i
  unfolding own_of
  own_none h = rw (← u, ← v, h)

module _ (text table items : List ℕ) where
  -- the name of record i
  abbrev name : ℕ → ℕ
  name i = word_at items i column.name

  claims_both : (e j : ℕ) → claims_element text table items e j ≡ true → (is_claim (word_at items j column.class) ≡ true) × (same_name text table (name j) e ≡ true)
  unfolding claims_element
  claims_both e j h = (both_left (is_claim (word_at items j column.class)) (same_name text table (name j) e) h, both_right (is_claim (word_at items j column.class)) (same_name text table (name j) e) h)

  claims_so : (e j : ℕ) → is_claim (word_at items j column.class) ≡ true → same_name text table (name j) e ≡ true → claims_element text table items e j ≡ true
  unfolding claims_element
  claims_so e j h g = rw (h, g)

  -- a link names the first record that claims the name
  pub link_found : (e f : ℕ) → link_of text table items e ≡ suc f → (f < records_in items) × (claims_element text table items e f ≡ true) × ((k : ℕ) → k < f → claims_element text table items e k ≡ false)
  unfolding link_of
  link_found e f h =
      let w = first_found (claims_element text table items e) 0 (records_in items) f h in
      let a = w.1 in
      (omega arith, w.2, λ k l. w.3 k (omega arith) l)

  -- no link: no record claims the name
  pub link_none : (e : ℕ) → link_of text table items e ≡ 0 → (k : ℕ) → k < records_in items → claims_element text table items e k ≡ false
  unfolding link_of
  link_none e h k l = first_none (claims_element text table items e) 0 (records_in items) h k (omega arith) (omega arith)

  -- one name has one link
  pub link_same : (a b : ℕ) → same_name text table a b ≡ true → link_of text table items a ≡ link_of text table items b
  unfolding link_of claims_element
  link_same a b h = first_same (claims_element text table items a) (claims_element text table items b) 0 (records_in items) (λ k l g. ap (λ (t : Bool). is_claim (word_at items k column.class) && t) (agree (name k)))
    where
      agree : (c : ℕ) → same_name text table c a ≡ same_name text table c b
      agree c = go (same_name text table c a) (same_name text table c b) refl refl
        where
          go : (x y : Bool) → same_name text table c a ≡ x → same_name text table c b ≡ y → x ≡ y
          go true true p q = refl
          go false false p q = refl
          go true false p q = sym (same_goes_on text table c a b p h) ∙ q
          go false true p q = sym p ∙ same_goes_on text table c b a q (same_flips text table a b h)

  own_is : (i : ℕ) → is_claim (word_at items i column.class) ≡ true → own_of text table items i ≡ link_of text table items (name i)
  unfolding own_of
  own_is i h = rw h

  own_claims : (i f : ℕ) → own_of text table items i ≡ suc f → (is_claim (word_at items i column.class) ≡ true) × (link_of text table items (name i) ≡ suc f)
  unfolding own_of
  own_claims i f h = go (is_claim (word_at items i column.class)) refl
    where
      go : (t : Bool) → is_claim (word_at items i column.class) ≡ t → (is_claim (word_at items i column.class) ≡ true) × (link_of text table items (name i) ≡ suc f)
      go true e = (e, sym (own_is i e) ∙ h)
      go false e = absurd (let z : ◌≡◌ {A = ℕ} 0 (suc f) = sym (ap (λ (t : Bool). cond t (link_of text table items (name i)) 0) e) ∙ h in omega arith)

  share_opens : (i j : ℕ) → share text table items i j ≡ true → (is_claim (word_at items i column.class) ≡ true) × (is_claim (word_at items j column.class) ≡ true) × (same_name text table (name i) (name j) ≡ true)
  unfolding share
  share_opens i j h =
      let x = is_claim (word_at items i column.class) in
      let y = is_claim (word_at items j column.class) in
      let c = both_left (x && y) (same_name text table (name i) (name j)) h in
      (both_left x y c, both_right x y c, both_right (x && y) (same_name text table (name i) (name j)) h)

  share_closes : (i j : ℕ) → is_claim (word_at items i column.class) ≡ true → is_claim (word_at items j column.class) ≡ true → same_name text table (name i) (name j) ≡ true → share text table items i j ≡ true
  unfolding share
  share_closes i j a b c = rw (a, b, c)

  -- records that share a name have one number, and it is not 0
  pub shared_owns : (i j : ℕ) → j < records_in items → share text table items i j ≡ true → (own_of text table items i ≡ own_of text table items j) × (own_of text table items i ≡ 0 → ⊥)
  shared_owns i j l h =
      let s = share_opens i j h in
      let q = claims_so (name i) j s.1 (same_flips text table (name i) (name j) s.2) in
      (own_is i s.0 ∙ link_same (name i) (name j) s.2 ∙ sym (own_is j s.1), λ z. false≢true (sym (link_none (name i) (sym (own_is i s.0) ∙ z) j l) ∙ q))

  -- records of one number that is not 0 share a name
  pub owns_shared : (i j f : ℕ) → own_of text table items i ≡ suc f → own_of text table items j ≡ suc f → share text table items i j ≡ true
  owns_shared i j f a b =
      let x = own_claims i f a in
      let y = own_claims j f b in
      let p = claims_both (name i) f (link_found (name i) f x.1).1 in
      let q = claims_both (name j) f (link_found (name j) f y.1).1 in
      share_closes i j x.0 y.0 (same_goes_on text table (name i) (name f) (name j) (same_flips text table (name f) (name i) p.1) q.1)

  -- a number is that of the first record that has it
  pub own_first : (i f : ℕ) → own_of text table items i ≡ suc f → (f < records_in items) × (own_of text table items f ≡ suc f)
  own_first i f h =
      let x = own_claims i f h in
      let k = link_found (name i) f x.1 in
      let c = claims_both (name i) f k.1 in
      (k.0, own_is f c.0 ∙ link_same (name f) (name i) c.1 ∙ x.1)
