-- Whole lines one after the other in a buffer, and that the parts of a listing are the listing. Assumes nothing.
use Prim.Native.Nat.{ℕ, zero, suc, ◌+◌, ◌-◌, ◌≤◌, ◌<◌}
use native.Mathlib.Nat.{add-zero}
use native.Mathlib.Omega.{arith}
use mathlib.Core.Path.{◌≡◌, refl, ap, sym, ◌∙◌}
use mathlib.Core.List.{List, [], ◌∷◌, ◌++◌, append_assoc, append-nil}
use borrow.Author.Tests.{lt-ltb, le-ltb}
use lib.ListN.{length, take, set, replicate, length-append}
use lib.Seq.{sets, take-set-le}
use Rattle.puts.specs.Puts.{Wrote}
use Rattle.puts.specs.Lines.{lines_from, fitting, Part}
use Rattle.puts.specs.declared.Filled.{Filled}
use Rattle.puts.proofs.Laws.{then, named, none_put, room_all, same_size}

-- what stands before the place stays
front_sets : (n : ℕ) (l : List ℕ) (i : ℕ) (vs : List ℕ) → n ≤ i → take n (sets l i vs) ≡ take n l
front_sets n l i [] h = refl
front_sets n l i (a ∷ vs) h = front_sets n (set l i a) (suc i) vs (omega arith) ∙ take-set-le n l i a h

pub front_kept : {t t' bs : List ℕ} {at r : ℕ} → Wrote t at bs t' r → take at t' ≡ take at t
front_kept {t} {t'} {bs} {at} p = ap (take at) p.bytes ∙ front_sets at t at bs (omega arith)

module _ (line : ℕ → List ℕ) where
  -- a line more, after the others
  pub lines_snoc : (i n : ℕ) → lines_from line i (suc n) ≡ lines_from line i n ++ line (i + n)
  unfolding lines_from
  lines_snoc i zero = append-nil (line i) ∙ ap line (sym (add-zero i))
  lines_snoc i (suc n) =
      let e : suc i + n ≡ i + suc n = omega arith in
      ap (λ (l : List ℕ). line i ++ l) (lines_snoc (suc i) n ∙ ap (λ (k : ℕ). lines_from line (suc i) n ++ line k) e)
      ∙ sym (append_assoc (line i) (lines_from line (suc i) n) (line (i + suc n)))

  -- parts one after the other are the listing
  pub lines_joined : (i m n : ℕ) → lines_from line i m ++ lines_from line (i + m) n ≡ lines_from line i (m + n)
  unfolding lines_from
  lines_joined i zero n = let e : n ≡ 0 + n = omega arith in rw add-zero (ap (λ (k : ℕ). lines_from line i k) e)
  lines_joined i (suc m) n =
      let e : i + suc m ≡ suc i + m = omega arith in
      let f : suc m + n ≡ suc (m + n) = omega arith in
      append_assoc (line i) (lines_from line (suc i) m) (lines_from line (i + suc m) n)
      ∙ ap (λ (l : List ℕ). line i ++ l)
      (ap (λ (k : ℕ). lines_from line (suc i) m ++ lines_from line k n) e ∙ lines_joined (suc i) m n)
      ∙ ap (λ (k : ℕ). lines_from line i k) (sym f)

  onto : (from i : ℕ) → from ≤ i → lines_from line from (i + 1 - from) ≡ lines_from line from (i - from) ++ line i
  onto from i h =
      let e : i + 1 - from ≡ suc (i - from) = omega arith in
      let f : from + (i - from) ≡ i = omega arith in
      ap (λ (n : ℕ). lines_from line from n) e ∙ lines_snoc from (i - from) ∙ ap (λ (k : ℕ). lines_from line from (i - from) ++ line k) f

  -- whether the next line fits
  one_fits : (i n room : ℕ) → length (line i) < room → fitting line i (suc n) room ≡ suc (fitting line (suc i) n (room - length (line i)))
  unfolding fitting
  one_fits i n room h = rw (lt-ltb (length (line i)) room h)

  none_fits : (i n room : ℕ) → room ≤ length (line i) → fitting line i (suc n) room ≡ 0
  unfolding fitting
  none_fits i n room h = rw (le-ltb (length (line i)) room h)

  no_lines : (i room : ℕ) → fitting line i 0 room ≡ 0
  unfolding fitting
  no_lines i room = refl

-- so far: the lines from `from` up to i stand in the buffer, each whole, and as many of the rest fit as are still to come
pub record SoFar (line : ℕ → List ℕ) (from to : ℕ) (t : List ℕ) (i : ℕ) (out : List ℕ) (w : ℕ) : Type 0 where
  pub wrote : Wrote t 0 (lines_from line from (i - from)) out w
  pub exact : w ≡ length (lines_from line from (i - from))
  pub onward : from ≤ i
  pub rest : fitting line from (to - from) (length t) ≡ (i - from) + fitting line i (to - i) (length t - w)

pub begun : (line : ℕ → List ℕ) (from to : ℕ) (t : List ℕ) → SoFar line from to t from t 0
unfolding lines_from
begun line from to t =
    let e : from - from ≡ 0 = omega arith in
    let f : length t ≡ length t - 0 = omega arith in
    record {
      wrote = rw e (none_put t 0 0 (omega arith));
      exact = rw e;
      onward = omega arith;
      rest = ap (λ (m : ℕ). fitting line from (to - from) m) f ∙ omega arith;
    }

pub line_more : {line : ℕ → List ℕ} {from to : ℕ} {t : List ℕ} {i : ℕ} {out : List ℕ} {w : ℕ} {out' : List ℕ} {r : ℕ}
    → SoFar line from to t i out w → i < to → Wrote out w (line i) out' r → r < length out' → SoFar line from to t (i + 1) out' r
line_more {line} {from} {to} {t} {i} {out} {w} {out'} {r} s h p k =
    let a = p.reach in
    let b = s.wrote.reach in
    let x = same_size p in
    let y = same_size s.wrote in
    let z = s.exact in
    let o = s.onward in
    let n = length-append (lines_from line from (i - from)) (line i) in
    let e = onto line from i o in
    let d : length (lines_from line from (i + 1 - from)) ≡ length (lines_from line from (i - from)) + length (line i) = ap length e ∙ n in
    let q : r ≡ w + length (line i) = omega arith in
    let u : to - i ≡ suc (to - (i + 1)) = omega arith in
    let v : length t - w - length (line i) ≡ length t - r = omega arith in
    let c : suc i ≡ i + 1 = omega arith in
    let g : fitting line i (to - i) (length t - w) ≡ suc (fitting line (i + 1) (to - (i + 1)) (length t - r)) =
    ap (λ (m : ℕ). fitting line i m (length t - w)) u ∙ one_fits line i (to - (i + 1)) (length t - w) (omega arith)
    ∙ ap (λ (m : ℕ). suc (fitting line (suc i) (to - (i + 1)) m)) v ∙ ap (λ (m : ℕ). suc (fitting line m (to - (i + 1)) (length t - r))) c in
    record {
      wrote = named e (then s.wrote p);
      exact = omega arith;
      onward = omega arith;
      rest = let f = s.rest in omega arith;
    }

-- the buffer then: what was put, and zeros after it
closed : {line : ℕ → List ℕ} {from to : ℕ} {t : List ℕ} {i : ℕ} {out : List ℕ} {w : ℕ} (n : ℕ) (out' : List ℕ)
    → SoFar line from to t i out w → fitting line i (to - i) (length t - w) ≡ 0 → to ≡ n
    → out' ≡ take w out ++ replicate (length t - w) 0
    → Part line from n (length t) (record { next = i; used = w; left = n - i }) out'
closed {line} {from} {to} {t} {i} {out} {w} n out' s z q e =
    let b = s.wrote.reach in
    let x = s.exact in
    let o = s.onward in
    let f : fitting line from (n - from) (length t) ≡ i - from =
    ap (λ (m : ℕ). fitting line from (m - from) (length t)) (sym q) ∙ s.rest ∙ ap (λ (m : ℕ). (i - from) + m) z ∙ add-zero (i - from) in
    let l : take w out ≡ lines_from line from (i - from) = room_all s.wrote (omega arith) in
    record {
      next = rw f (omega arith);
      used = rw f x;
      left = refl;
      bytes = rw f (e ∙ ap (λ (k : List ℕ). k ++ replicate (length t - w) 0) l);
    }

-- a line has no room
pub stopped : {line : ℕ → List ℕ} {from to : ℕ} {t : List ℕ} {i : ℕ} {out : List ℕ} {w : ℕ} {out₁ out₂ : List ℕ} {r : ℕ} {f : Filled} (n : ℕ)
    → SoFar line from to t i out w → i < to → Wrote out w (line i) out₁ r → length out₁ ≤ r → to ≡ n
    → f ≡ record { next = i; used = w; left = to - i } → out₂ ≡ take w out₁ ++ replicate (length out₁ - w) 0
    → Part line from n (length t) f out₂
stopped {line} {from} {to} {t} {i} {out} {w} {out₁} {out₂} {r} {f} n s h p k q e g =
    let a = p.reach in
    let b = s.wrote.reach in
    let x : length out₁ ≡ length out = same_size p in
    let y : length out ≡ length t = same_size s.wrote in
    let u : to - i ≡ suc (to - (i + 1)) = omega arith in
    let z : fitting line i (to - i) (length t - w) ≡ 0 =
    ap (λ (m : ℕ). fitting line i m (length t - w)) u ∙ none_fits line i (to - (i + 1)) (length t - w) (omega arith) in
    let d : out₂ ≡ take w out ++ replicate (length t - w) 0 =
    g ∙ ap (λ (l : List ℕ). l ++ replicate (length out₁ - w) 0) (front_kept p) ∙ ap (λ (m : ℕ). take w out ++ replicate (m - w) 0) (x ∙ y) in
    rw e (rw q (closed n out₂ s z q d))

-- no line is left
pub finished : {line : ℕ → List ℕ} {from to : ℕ} {t : List ℕ} {i : ℕ} {out : List ℕ} {w : ℕ} {out₂ : List ℕ} {f : Filled} (n : ℕ)
    → SoFar line from to t i out w → to ≤ i → to ≡ n
    → f ≡ record { next = i; used = w; left = to - i } → out₂ ≡ take w out ++ replicate (length out - w) 0
    → Part line from n (length t) f out₂
finished {line} {from} {to} {t} {i} {out} {w} {out₂} {f} n s h q e g =
    let y : length out ≡ length t = same_size s.wrote in
    let u : to - i ≡ 0 = omega arith in
    let z : fitting line i (to - i) (length t - w) ≡ 0 = ap (λ (m : ℕ). fitting line i m (length t - w)) u ∙ no_lines line i (length t - w) in
    let d : out₂ ≡ take w out ++ replicate (length t - w) 0 = g ∙ ap (λ (m : ℕ). take w out ++ replicate (m - w) 0) y in
    rw e (rw q (closed n out₂ s z q d))
