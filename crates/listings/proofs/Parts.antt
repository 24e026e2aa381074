-- The parts of a listing, one after the other. Assumes nothing.
use Prim.Native.Nat.{ℕ, zero, suc, ◌+◌, ◌-◌, ◌≤◌, ◌<◌}
use native.Mathlib.Omega.{arith}
use mathlib.Core.Path.{◌≡◌, ap, sym, ◌∙◌}
use mathlib.Core.Bool.{Bool, true, false, cond}
use mathlib.Core.List.{List, ◌++◌}
use lib.Dec.{ltb}
use lib.ListN.{length, take, replicate}
use lib.Seq.{take_at}
use borrow.Author.Tests.{lt-ltb}
use Rattle.puts.specs.declared.Filled.{Filled}
use Rattle.puts.specs.Lines.{lines_from, fitting, Part}
use Rattle.puts.proofs.Lines.{lines_joined}
use Rattle.listings.specs.WrittenParts.{Written, last, more, WrittenWhole, ComesFurther, OnePart}

-- no more lines fit than there are
at_most : (b : Bool) (x n : ℕ) → x ≤ n → cond b (suc x) 0 ≤ suc n
at_most true x n h = omega arith
at_most false x n h = omega arith

pub fitting_most : (line : ℕ → List ℕ) (i n room : ℕ) → fitting line i n room ≤ n
unfolding fitting
fitting_most line i zero room = omega arith
fitting_most line i (suc n) room =
    at_most (ltb (length (line i)) room) (fitting line (suc i) n (room - length (line i))) n (fitting_most line (suc i) n (room - length (line i)))

-- the bytes used are the lines that fit
used_bytes : {line : ℕ → List ℕ} {from to size : ℕ} {r : Filled} {out : List ℕ} → Part line from to size r out
    → take r.used out ≡ lines_from line from (fitting line from (to - from) size)
used_bytes {line} {from} {to} {size} {r} {out} p =
    ap (take r.used) p.bytes
    ∙ take_at (lines_from line from (fitting line from (to - from) size)) (replicate (size - r.used) 0) r.used (sym p.used)

whole_from : (line : ℕ → List ℕ) (to size from : ℕ) (bytes : List ℕ) → from ≤ to → Written line to size from bytes → bytes ≡ lines_from line from (to - from)
whole_from line to size at bytes h (last from r out p e) =
    let m = fitting_most line from (to - from) size in
    let n = p.next in
    let l = p.left in
    let k : fitting line from (to - from) size ≡ to - from = omega arith in
    used_bytes p ∙ ap (lines_from line from) k
whole_from line to size at bytes h (more from r out rest p w) =
    let m = fitting_most line from (to - from) size in
    let n = p.next in
    let k : to - r.next ≡ to - (from + fitting line from (to - from) size) = ap (λ (x : ℕ). to - x) n in
    let d : fitting line from (to - from) size + (to - r.next) ≡ to - from = omega arith in
    let q : rest ≡ lines_from line r.next (to - r.next) = whole_from line to size r.next rest (omega arith) w in
    ap (λ (x : List ℕ). x ++ rest) (used_bytes p)
    ∙ ap (λ (x : List ℕ). lines_from line from (fitting line from (to - from) size) ++ x) (q ∙ ap (λ (x : ℕ). lines_from line x (to - r.next)) n)
    ∙ lines_joined line from (fitting line from (to - from) size) (to - r.next)
    ∙ ap (lines_from line from) d

pub written_whole : WrittenWhole
written_whole line to size bytes w =
    let e : to - 0 ≡ to = omega arith in
    whole_from line to size 0 bytes (omega arith) w ∙ ap (lines_from line 0) e

fits_one : (line : ℕ → List ℕ) (i n room : ℕ) → length (line i) < room → 1 ≤ fitting line i (suc n) room
unfolding fitting
fits_one line i n room h = rw (lt-ltb (length (line i)) room h) (omega arith)

pub comes_further : ComesFurther
comes_further line from to size r out p h k =
    let u : to - from ≡ suc (to - (from + 1)) = omega arith in
    let f = fits_one line from (to - (from + 1)) size k in
    let g : fitting line from (to - from) size ≡ fitting line from (suc (to - (from + 1))) size = ap (λ (n : ℕ). fitting line from n size) u in
    let n = p.next in
    omega arith

pub one_part : OnePart
one_part line from to size r r' out out' p q =
    let n : r.next ≡ r'.next = p.next ∙ sym q.next in
    let u : r.used ≡ r'.used = p.used ∙ sym q.used in
    let l : r.left ≡ r'.left = p.left ∙ ap (λ (x : ℕ). to - x) n ∙ sym q.left in
    (same r r' n u l, p.bytes ∙ ap (λ (x : ℕ). lines_from line from (fitting line from (to - from) size) ++ replicate (size - x) 0) u ∙ sym q.bytes)
  where
    same : (r r' : Filled) → r.next ≡ r'.next → r.used ≡ r'.used → r.left ≡ r'.left → r ≡ r'
    same r r' a b c =
        ap (λ (n : ℕ). record { next = n; used = r.used; left = r.left }) a
        ∙ ap (λ (n : ℕ). record { next = r'.next; used = n; left = r.left }) b
        ∙ ap (λ (n : ℕ). record { next = r'.next; used = r'.used; left = n }) c
