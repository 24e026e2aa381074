-- A table filled word by word. Assumes nothing.
use mathlib.Core.Path.{◌≡◌, refl, sym, ap, ◌∙◌}
use mathlib.Core.Bool.{Bool, true, false}
use mathlib.Core.List.{List}
use Prim.Native.Nat.{ℕ, zero, suc, ◌+◌, ◌≤◌, ◌<◌}
use native.Mathlib.Nat.{not-suc-le-zero, le_of_suc-le-suc, add-zero}
use native.Mathlib.Decide.{ℕ_discrete}
use native.Mathlib.Omega.{arith}
use lib.Dec.{ltb}
use lib.ListN.{length, get_or, set, replicate, length-replicate}
use lib.Seq.{get_or-set_same, get_or-set_other, ext_get_or}
use borrow.Author.Tests.{ltb-true, lt-ltb, le-ltb}
use Rattle.names.specs.code.Links.{each_from, up_to, filled}
use Rattle.laws.proofs.Laws.{zeros_at}

each_length : (f : ℕ → ℕ) (i m : ℕ) → length (each_from f i m) ≡ m
unfolding each_from
each_length f i zero = refl
each_length f i (suc m) = ap suc (each_length f (suc i) m)

each_at : (f : ℕ → ℕ) (i m k : ℕ) → k < m → get_or (each_from f i m) k 0 ≡ f (i + k)
unfolding each_from
each_at f i zero k h = absurd (not-suc-le-zero h)
each_at f i (suc m) zero h = rw (add-zero i)
each_at f i (suc m) (suc k) h = each_at f (suc i) m k (le_of_suc-le-suc h) ∙ ap f (next i k)
  where
    next : (i k : ℕ) → suc i + k ≡ i + suc k
    next i k = omega arith

module _ (f : ℕ → ℕ) (n m : ℕ) where
  pub filled_length : length (filled f n m) ≡ m
  unfolding filled
  filled_length = each_length (up_to f n) 0 m

  filled_word : (k : ℕ) → k < m → get_or (filled f n m) k 0 ≡ up_to f n k
  unfolding filled
  filled_word k h = each_at (up_to f n) 0 m k h ∙ ap (up_to f n) (zero_add k)
    where
      zero_add : (k : ℕ) → 0 + k ≡ k
      zero_add k = omega arith

  -- a word of the first n
  pub filled_at : (k : ℕ) → k < m → k < n → get_or (filled f n m) k 0 ≡ f k
  unfolding up_to
  filled_at k h g = filled_word k h ∙ rw (lt-ltb k n g)

  -- a word after them
  pub filled_past : (k : ℕ) → k < m → n ≤ k → get_or (filled f n m) k 0 ≡ 0
  unfolding up_to
  filled_past k h g = filled_word k h ∙ rw (le-ltb k n g)

-- the first e words are written
abbrev pub Written : (ℕ → ℕ) → List ℕ → ℕ → Type 0
Written g t e = (k : ℕ) → k < e → get_or t k 0 ≡ g k

pub word_written : (g : ℕ → ℕ) (t : List ℕ) (e v : ℕ) → Written g t e → e < length t → v ≡ g e → Written g (set t e v) (e + 1)
word_written g t e v h l q k b = go (ℕ_discrete k e)
  where
    go : Dec (k ≡ e) → get_or (set t e v) k 0 ≡ g k
    go (yes y) = rw (y, get_or-set_same t e v 0 l) q
    go (no y) = get_or-set_other t e k v 0 y ∙ h k (omega arith)

pub all_written : (f : ℕ → ℕ) (n : ℕ) (t t₀ : List ℕ) (e : ℕ) → length t ≡ length t₀ → Written (up_to f n) t e → length t₀ ≤ e → t ≡ filled f n (length t₀)
all_written f n t t₀ e s h l =
    ext_get_or 0 t (filled f n (length t₀)) (s ∙ sym (filled_length f n (length t₀)))
    (λ k b. h k (omega arith) ∙ sym (filled_word f n (length t₀) k (omega arith)))

pub filled_same : (f g : ℕ → ℕ) (n m : ℕ) → ((k : ℕ) → k < n → f k ≡ g k) → filled f n m ≡ filled g n m
unfolding up_to
filled_same f g n m h =
    let s = filled_length f n m in
    ext_get_or 0 (filled f n m) (filled g n m) (s ∙ sym (filled_length g n m))
    (λ k b. let l : k < m = omega arith in filled_word f n m k l ∙ go k (ltb k n) refl ∙ sym (filled_word g n m k l))
  where
    go : (k : ℕ) (t : Bool) → ltb k n ≡ t → up_to f n k ≡ up_to g n k
    go k true e = rw (e, h k (ltb-true k n e))
    go k false e = rw e

-- a word of a table of which the first n are asked
pub word_below : (f : ℕ → ℕ) (n k v : ℕ) → k < n → v ≡ f k → v ≡ up_to f n k
unfolding up_to
word_below f n k v l e = rw (lt-ltb k n l) e

pub word_past : (f : ℕ → ℕ) (n k : ℕ) → n ≤ k → 0 ≡ up_to f n k
unfolding up_to
word_past f n k l = rw (le-ltb k n l)

-- a table of zeros
pub all_zero : (n : ℕ) (t : List ℕ) → t ≡ replicate n 0 → (k : ℕ) → get_or t k 0 ≡ 0
all_zero n t e k = rw e (zeros_at n k)

pub zeros_long : (n : ℕ) (t : List ℕ) → t ≡ replicate n 0 → length t ≡ n
zeros_long n t e = rw e (length-replicate n 0)

-- filled, told by its own length
pub still_filled : (f : ℕ → ℕ) (n m : ℕ) (t : List ℕ) → t ≡ filled f n m → t ≡ filled f n (length t)
still_filled f n m t e = e ∙ ap (filled f n) (sym (ap length e ∙ filled_length f n m))
