-- A name's hash, a byte at a time, and that one name has one hash. Assumes nothing.
use mathlib.Core.Path.{◌≡◌, refl, sym, ap, ◌∙◌}
use mathlib.Core.Bool.{Bool, true, false, not, false≢true}
use mathlib.Core.List.{List}
use Prim.Native.Nat.{ℕ, zero, suc, ◌+◌, ◌-◌, ◌/◌, ◌≤◌, ◌<◌}
use native.Mathlib.Omega.{arith}
use lib.Dec.{eqb}
use lib.ListN.{length, get_or, take, drop}
use Rattle.std.proofs.lemmas.List.{length-take, length-drop, get_or-take, get_or-drop}
use borrow.Author.Tests.{le-leb, leb-true}
use Rattle.same_names.specs.Alike.{agree, same_name}
use Rattle.same_names.specs.Spelling.{counts, by_kind}
use Rattle.places.specs.Places.{cell_at, within}
use Rattle.same_names.proofs.Sameness.{agree_opens, same_opens}
use Rattle.places.specs.Kinds.{identifier_kind}
use Rattle.names.specs.code.Chains.{mixed_with, hash_from, chain_of, bucket_of, hashes, per_chain, buckets}

-- what is left to hash
abbrev pub Hashing : Bool → List ℕ → ℕ → ℕ → ℕ → ℕ → Type 0
Hashing basic s from n i h = hash_from basic s (from + i) (n - i) h ≡ hash_from basic s from n 0

module _ (basic : Bool) (s : List ℕ) (from n : ℕ) where
  pub hash_start : Hashing basic s from n 0 0
  hash_start = let e : from + 0 ≡ from = omega arith in let g : n - 0 ≡ n = omega arith in rw (e, g)

  pub hash_turn : (i h b r : ℕ) → Hashing basic s from n i h → i < n → b ≡ counts basic (get_or s (from + i) 0) → r ≡ mixed_with h b → Hashing basic s from n (i + 1) r
  unfolding hash_from
  hash_turn i h b r inv l e g =
      let z : n - i ≡ suc (n - (i + 1)) = omega arith in
      let y : from + (i + 1) ≡ suc (from + i) = omega arith in
      let o : hash_from basic s (from + i) (n - i) h ≡ hash_from basic s (suc (from + i)) (n - (i + 1)) (mixed_with h (counts basic (get_or s (from + i) 0))) =
      ap (λ (m : ℕ). hash_from basic s (from + i) m h) z in
      ap (λ (x : ℕ). hash_from basic s x (n - (i + 1)) r) y ∙ ap (hash_from basic s (suc (from + i)) (n - (i + 1))) (g ∙ ap (mixed_with h) e) ∙ sym o ∙ inv

  pub hash_end : (i h : ℕ) → Hashing basic s from n i h → n ≤ i → h ≡ hash_from basic s from n 0
  unfolding hash_from
  hash_end i h inv l = let z : n - i ≡ 0 = omega arith in sym (ap (λ (m : ℕ). hash_from basic s (from + i) m h) z) ∙ inv

hash_agrees : (basic : Bool) (s : List ℕ) (x y n h : ℕ) → agree basic s x y n ≡ true → hash_from basic s x n h ≡ hash_from basic s y n h
unfolding hash_from
hash_agrees basic s x y zero h e = refl
hash_agrees basic s x y (suc n) h e =
    let o = agree_opens basic s x y n e in
    ap (λ (b : ℕ). hash_from basic s (suc x) n (mixed_with h b)) o.0 ∙ hash_agrees basic s (suc x) (suc y) n (mixed_with h (counts basic (get_or s y 0))) o.1

-- the ways of a chain's number, in the code's terms
module _ (s l : List ℕ) (e first n : ℕ) (x : Bool) (p : first ≡ cell_at l e 1) (q : n ≡ cell_at l e 2) (w : x ≡ within s first n) where
  pub bucket_out : x ≡ false → 0 ≡ bucket_of s l e
  unfolding bucket_of
  bucket_out t = rw (← p, ← q, ← w, t)

  pub bucket_in : (kind h : ℕ) → x ≡ true → kind ≡ cell_at l e 0 → h ≡ hash_from (eqb kind identifier_kind) s first n 0 → chain_of h ≡ bucket_of s l e
  unfolding bucket_of
  bucket_in kind h t k g = rw (← p, ← q, ← w, t, ← k, g)

how_counted : (k : ℕ) (basic : Bool) → by_kind k basic (not basic) ≡ true → basic ≡ eqb k 1
how_counted zero basic h = absurd (false≢true h)
how_counted (suc zero) basic h = h
how_counted (suc (suc zero)) true h = absurd (false≢true h)
how_counted (suc (suc zero)) false h = refl
how_counted (suc (suc (suc k))) basic h = absurd (false≢true h)

-- one name is of one chain
pub same_bucket : (s l : List ℕ) (a b : ℕ) → same_name s l a b ≡ true → bucket_of s l a ≡ bucket_of s l b
unfolding bucket_of
same_bucket s l a b h =
    let o = same_opens s l a b h in
    let k = how_counted (cell_at l a 0) o.basic o.kind in
    let z : hash_from o.basic s (cell_at l a 1) (cell_at l a 2) 0 ≡ hash_from o.basic s (cell_at l b 1) (cell_at l a 2) 0 =
    hash_agrees o.basic s (cell_at l a 1) (cell_at l b 1) (cell_at l a 2) 0 o.agrees in
    rw (le-leb (cell_at l a 1 + cell_at l a 2) (length s) o.first_in, le-leb (cell_at l b 1 + cell_at l b 2) (length s) o.second_in, ← o.kinds, ← o.sizes, ← k) (ap chain_of z)

-- the part of the text that is hashed: its length, and its bytes
module _ (s : List ℕ) (x n : ℕ) (inside : x + n ≤ length s) where
  pub part_long : length (take (x + n - x) (drop x s)) ≡ n
  part_long = simp (length-take, length-drop) (omega arith)

  pub part_at : (i : ℕ) → i < n → get_or (take (x + n - x) (drop x s)) i 0 ≡ get_or s (x + i) 0
  part_at i l = get_or-take (x + n - x) (drop x s) i 0 (omega arith) ∙ get_or-drop x s i 0

-- bytes that stand in the text
pub stands_in : (s : List ℕ) (x n : ℕ) (t : Bool) → t ≡ within s x n → t ≡ true → x + n ≤ length s
stands_in s x n t e h = leb-true (x + n) (length s) (sym e ∙ h)

pub chain_low : (h : ℕ) → h < hashes → h / per_chain < buckets
chain_low h l = omega arith
