-- Names compared in the table are names compared by their bytes. Assumes nothing.
use mathlib.Core.Path.{◌≡◌, refl, sym, ap, ◌∙◌}
use mathlib.Core.Bool.{Bool, true, false, ◌&&◌}
use mathlib.Core.List.{List, ◌++◌}
use Prim.Native.Nat.{ℕ, zero, suc, ◌+◌, ◌≤◌, ◌<◌}
use native.Mathlib.Omega.{arith}
use borrow.Author.Tests.{le-leb, eqb-true, eqb-false}
use lib.Dec.{eqb}
use lib.ListN.{length, get_or, take, drop, replicate, length-drop}
use lib.Seq.{drop-cons, length-take-le}
use Rattle.same_names.specs.Alike.{agree, spelled_same, same_name}
use Rattle.places.specs.Places.{cell_at}
use Rattle.same_names.specs.Spelling.{spelt, counts}
use Rattle.same_names.proofs.Spelling.{unlike}
use Rattle.element_reading.specs.Rows.{rows_of}
use Rattle.element_reading.specs.Table.{cells}
use Rattle.operands.specs.code.Operands.{bytes_at}
use Rattle.element_reading.proofs.Promises.{stand_in_order}
use Rattle.meaning.specs.Elements.{at}
use Rattle.meaning.specs.Pieces.{elements_of}
use Rattle.meaning.specs.Names.{same_as}
use Rattle.meaning.proofs.Tables.{element_at, cell_word, element_at_lem, row_within}

agree_bytes : (basic : Bool) (s : List ℕ) (x y n : ℕ) → x + n ≤ length s → y + n ≤ length s → agree basic s x y n ≡ spelt basic (take n (drop x s)) (take n (drop y s))
unfolding agree spelt
agree_bytes basic s x y zero h g = refl
agree_bytes basic s x y (suc n) h g =
    let p : x < length s = omega arith in
    let q : y < length s = omega arith in
    rw (drop-cons s x 0 p, drop-cons s y 0 q)
    (ap (λ (b : Bool). eqb (counts basic (get_or s x 0)) (counts basic (get_or s y 0)) && b) (agree_bytes basic s (suc x) (suc y) n (omega arith) (omega arith)))

part_length : (s : List ℕ) (x n : ℕ) → x + n ≤ length s → length (take n (drop x s)) ≡ n
part_length s x n h = length-take-le n (drop x s) (omega (arith, length-drop x s))

module _ (s t : List ℕ) (a b : ℕ) (p : cell_at t a 1 + cell_at t a 2 ≤ length s) (q : cell_at t b 1 + cell_at t b 2 ≤ length s) where
  spelled_bytes : (basic : Bool) → spelled_same basic s t a b ≡ spelt basic (bytes_at s t a) (bytes_at s t b)
  unfolding spelled_same bytes_at
  spelled_bytes basic = go (eqb (cell_at t a 2) (cell_at t b 2)) refl
    where
      go : (x : Bool) → eqb (cell_at t a 2) (cell_at t b 2) ≡ x → spelled_same basic s t a b ≡ spelt basic (take (cell_at t a 2) (drop (cell_at t a 1) s)) (take (cell_at t b 2) (drop (cell_at t b 1) s))
      go true e =
          let z : cell_at t a 2 ≡ cell_at t b 2 = eqb-true (cell_at t a 2) (cell_at t b 2) e in
          let q' : cell_at t b 1 + cell_at t a 2 ≤ length s = omega arith in
          rw (e, le-leb (cell_at t a 1 + cell_at t a 2) (length s) p, le-leb (cell_at t b 1 + cell_at t a 2) (length s) q')
          (agree_bytes basic s (cell_at t a 1) (cell_at t b 1) (cell_at t a 2) p q'
          ∙ ap (λ (n : ℕ). spelt basic (take (cell_at t a 2) (drop (cell_at t a 1) s)) (take n (drop (cell_at t b 1) s))) z)
      go false e =
          rw e
          (unlike basic (take (cell_at t a 2) (drop (cell_at t a 1) s)) (take (cell_at t b 2) (drop (cell_at t b 1) s))
          (λ z. eqb-false (cell_at t a 2) (cell_at t b 2) e (sym (part_length s (cell_at t a 1) (cell_at t a 2) p) ∙ z ∙ part_length s (cell_at t b 1) (cell_at t b 2) q)))

  same_bytes_lem : same_name s t a b ≡ same_as (element_at s t a) (element_at s t b)
  unfolding same_name same_as element_at
  same_bytes_lem = rw (spelled_bytes true, spelled_bytes false)

-- in a text's own table
pub same_name_lem : (s : List ℕ) (z a b : ℕ) → same_name s (cells (rows_of s) ++ replicate z 0) a b ≡ same_as (at (elements_of s (rows_of s)) a) (at (elements_of s (rows_of s)) b)
same_name_lem s z a b =
    same_bytes_lem s (cells (rows_of s) ++ replicate z 0) a b (inside a) (inside b)
    ∙ rw (element_at_lem s (rows_of s) z a, element_at_lem s (rows_of s) z b)
  where
    inside : (e : ℕ) → cell_at (cells (rows_of s) ++ replicate z 0) e 1 + cell_at (cells (rows_of s) ++ replicate z 0) e 2 ≤ length s
    inside e =
        rw (cell_word (rows_of s) z e 1 (omega arith), cell_word (rows_of s) z e 2 (omega arith)) (row_within (rows_of s) 0 (length s) e (stand_in_order s))
