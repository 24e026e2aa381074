-- Rows put into a table one after the other: they are its words from the first row on, where there is room for all. Assumes nothing.
use mathlib.Core.Path.{◌≡◌, refl, ap, ◌∙◌}
use mathlib.Core.List.{List, [], ◌∷◌, ◌++◌}
use Prim.Native.Nat.{ℕ, zero, suc, ◌+◌, ◌-◌, ◌*◌, ◌/◌, ◌≤◌}
use native.Mathlib.Nat.{sub-zero, zero-sub, suc-sub-suc, zero-add, add-zero}
use native.Mathlib.Numerals.{add-one, add-two, add-three}
use native.Mathlib.Omega.{arith}
use lib.Dec.{ltb}
use lib.ListN.{length, set, drop, replicate, length-set, length-replicate}
use lib.Seq.{sets, sets-eq}
use Rattle.classes.proofs.Laws.{by_test}
use Rattle.elements.specs.Kinds.{kind_number}
use Rattle.element_reading.specs.Rows.{ElementRow}
use Rattle.places.specs.Places.{put_row}
use Rattle.places.proofs.Laws.{put_there}
use Rattle.element_reading.specs.Table.{cells, puts}

pub length_put : (t : List ℕ) (n kind first size : ℕ) → length (put_row t n kind first size) ≡ length t
unfolding put_row
length_put t n kind first size = by_test (λ (u : List ℕ). length u ≡ length t) (ltb n (length t / 3)) (λ _. simp length-set) (λ _. refl)

pub length_puts : (t : List ℕ) (n : ℕ) (rs : List ElementRow) → length (puts t n rs) ≡ length t
unfolding puts
length_puts t n [] = refl
length_puts t n (r ∷ rs) = length_puts (put_row t n (kind_number r.kind) r.first r.size) (suc n) rs ∙ length_put t n (kind_number r.kind) r.first r.size

pub puts_append : (t : List ℕ) (n : ℕ) (rs more : List ElementRow) → puts t n (rs ++ more) ≡ puts (puts t n rs) (n + length rs) more
unfolding puts
puts_append t n [] more = rw add-zero
puts_append t n (r ∷ rs) more = puts_append (put_row t n (kind_number r.kind) r.first r.size) (suc n) rs more ∙ ap (λ (m : ℕ). puts (puts (put_row t n (kind_number r.kind) r.first r.size) (suc n) rs) m more) (omega arith)

pub length_cells : (rs : List ElementRow) → length (cells rs) ≡ 3 * length rs
unfolding cells
length_cells [] = refl
length_cells (r ∷ rs) = omega (arith, length_cells rs)

-- where there is room for all, they are stored one word after the other
puts_sets : (t : List ℕ) (n : ℕ) (rs : List ElementRow) → n + length rs ≤ length t / 3 → puts t n rs ≡ sets t (n * 3) (cells rs)
unfolding puts cells
puts_sets t n [] h = refl
puts_sets t n (r ∷ rs) h =
    puts_sets (put_row t n k r.first r.size) (suc n) rs (rw (length_put t n k r.first r.size) (omega arith))
    ∙ ap (λ (u : List ℕ). sets u (suc n * 3) (cells rs)) (put_there t n k r.first r.size (omega arith))
    ∙ ap (λ (m : ℕ). sets (set (set (set t (n * 3) k) (n * 3 + 1) r.first) (n * 3 + 2) r.size) m (cells rs)) (three n)
    ∙ stored t (n * 3) k r.first r.size (cells rs)
  where
    k : ℕ
    k = kind_number r.kind

    three : (n : ℕ) → suc n * 3 ≡ n * 3 + 3
    three n = omega arith

    stored : (t : List ℕ) (w a b d : ℕ) (rest : List ℕ) → sets (set (set (set t w a) (w + 1) b) (w + 2) d) (w + 3) rest ≡ sets t w (a ∷ b ∷ d ∷ rest)
    stored t w a b d rest = rw (add-one, add-two, add-three)

-- zeros after a part of zeros
drop_replicate : (k n a : ℕ) → drop k (replicate n a) ≡ replicate (n - k) a
drop_replicate zero n a = rw sub-zero
drop_replicate (suc k) zero a = rw zero-sub
drop_replicate (suc k) (suc n) a = drop_replicate k n a ∙ rw suc-sub-suc

-- rows put into a table of zeros: the rows, then zeros
pub puts_zeros : (rs : List ElementRow) (w : ℕ) → length rs ≤ w / 3 → puts (replicate w 0) 0 rs ≡ cells rs ++ replicate (w - 3 * length rs) 0
puts_zeros rs w h =
    puts_sets (replicate w 0) 0 rs (rw length-replicate (omega arith))
    ∙ sets-eq (cells rs) (replicate w 0) 0 (rw (zero-add, length_cells, length-replicate) (omega arith))
    ∙ rw (zero-add, length_cells rs, drop_replicate)
