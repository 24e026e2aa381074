-- A name in lower case is the same name to the rules of elements. Assumes nothing.
use Rattle.std.proofs.Common.{Option, Some}
use Prim.Native.Nat.{ℕ, zero, suc, ◌+◌, ◌≤◌}
use mathlib.Core.Path.{◌≡◌, refl, sym, ap, ap₂, ◌∙◌}
use mathlib.Core.Logic.{◌⊎◌, inl, inr}
use mathlib.Core.Bool.{Bool, true, false, cond, ◌&&◌, ◌||◌}
use mathlib.Core.List.{List, [], ◌∷◌, map}
use Prim.Native.String.{String}
use native.Mathlib.Omega.{arith}
use borrow.Author.Tests.{eq-eqb, ne_eqb, le-leb, lt-leb}
use lib.Dec.{eqb}
use lib.ListN.{length, get_or, take, length-map, get_or-map}
use Rattle.classes.specs.Bytes.{between, is_letter, is_digit, lower, underscore}
use Rattle.classes.specs.Runs.{in_run, count_while, goes_on, run}
use Rattle.classes.specs.declared.Run.TheVariants.{Word}
use Rattle.classes.proofs.Laws.{count_more, count_none, within_low, within_high}
use Rattle.words.specs.Words.{bytes_of, begins, spells, place_from, reserved_words}
use Rattle.same_names.specs.Spelling.{counts}
use Rattle.stored.specs.LegalNames.{in_lower_case}
use Rattle.names_alone.proofs.Names.{Basic}

-- ---- a byte

-- an upper-case letter, or its own lower case
ways : (b : ℕ) → ((65 ≤ b) × (b ≤ 90) × (lower b ≡ b + 32)) ⊎ (lower b ≡ b)
unfolding lower
ways b = go (between 65 90 b) refl
  where
    go : (x : Bool) → between 65 90 b ≡ x → ((65 ≤ b) × (b ≤ 90) × (cond x (b + 32) b ≡ b + 32)) ⊎ (cond x (b + 32) b ≡ b)
    go true e = inl (within_low 65 90 b e, within_high 65 90 b e, refl)
    go false e = inr refl

module _ (b : ℕ) (l : 65 ≤ b) (h : b ≤ 90) where
  upper_letter : is_letter b ≡ true
  unfolding is_letter
  upper_letter = rw (le-leb 65 b l, le-leb b 90 h)

  lower_letter : is_letter (b + 32) ≡ true
  unfolding is_letter
  lower_letter = rw (lt-leb (b + 32) 90 (omega arith), le-leb 97 (b + 32) (omega arith), le-leb (b + 32) 122 (omega arith), le-leb 65 (b + 32) (omega arith))

  upper_digit : is_digit b ≡ false
  unfolding is_digit
  upper_digit = rw (lt-leb b 57 (omega arith), le-leb 48 b (omega arith))

  lower_digit : is_digit (b + 32) ≡ false
  unfolding is_digit
  lower_digit = rw (lt-leb (b + 32) 57 (omega arith), le-leb 48 (b + 32) (omega arith))

  lower_still : lower (b + 32) ≡ b + 32
  unfolding lower
  lower_still = rw (le-leb 65 (b + 32) (omega arith), lt-leb (b + 32) 90 (omega arith))

letter_same : (b : ℕ) → is_letter (lower b) ≡ is_letter b
letter_same b = go (ways b)
  where
    go : ((65 ≤ b) × (b ≤ 90) × (lower b ≡ b + 32)) ⊎ (lower b ≡ b) → is_letter (lower b) ≡ is_letter b
    go (inl (l, h, e)) = ap is_letter e ∙ lower_letter b l h ∙ sym (upper_letter b l h)
    go (inr e) = ap is_letter e

digit_same : (b : ℕ) → is_digit (lower b) ≡ is_digit b
digit_same b = go (ways b)
  where
    go : ((65 ≤ b) × (b ≤ 90) × (lower b ≡ b + 32)) ⊎ (lower b ≡ b) → is_digit (lower b) ≡ is_digit b
    go (inl (l, h, e)) = ap is_digit e ∙ lower_digit b l h ∙ sym (upper_digit b l h)
    go (inr e) = ap is_digit e

underscore_same : (b : ℕ) → eqb (lower b) underscore ≡ eqb b underscore
underscore_same b = go (ways b)
  where
    go : ((65 ≤ b) × (b ≤ 90) × (lower b ≡ b + 32)) ⊎ (lower b ≡ b) → eqb (lower b) underscore ≡ eqb b underscore
    go (inl (l, h, e)) = ne_eqb (lower b) underscore (λ q. omega arith) ∙ sym (ne_eqb b underscore (λ q. omega arith))
    go (inr e) = ap (λ (c : ℕ). eqb c underscore) e

pub lower_twice : (b : ℕ) → lower (lower b) ≡ lower b
lower_twice b = go (ways b)
  where
    go : ((65 ≤ b) × (b ≤ 90) × (lower b ≡ b + 32)) ⊎ (lower b ≡ b) → lower (lower b) ≡ lower b
    go (inl (l, h, e)) = ap lower e ∙ lower_still b l h ∙ sym e
    go (inr e) = ap lower e

pub lower_letters : (b : ℕ) → is_letter b ≡ true → is_letter (lower b) ≡ true
lower_letters b h = letter_same b ∙ h

-- ---- bytes, each as its lower case

pub lowered_at : (s : List ℕ) (i : ℕ) → get_or (map (counts true) s) i 0 ≡ lower (get_or s i 0)
unfolding lower
lowered_at s i = get_or-map (counts true) s i 0

in_word : (b : ℕ) → in_run Word (lower b) ≡ in_run Word b
unfolding in_run
in_word b = ap₂ (λ (x y : Bool). x || y) (letter_same b) (digit_same b)

goes_same : (s : List ℕ) → goes_on Word (map (counts true) s) ≡ goes_on Word s
unfolding goes_on
goes_same s =
    rw (lowered_at s 0, lowered_at s 1, in_word (get_or s 0 0), in_word (get_or s 1 0), underscore_same (get_or s 0 0))

run_same : (s : List ℕ) → run Word (map (counts true) s) ≡ run Word s
unfolding run count_while
run_same [] = refl
run_same (b ∷ s) = go (goes_on Word (b ∷ s)) refl (run_same s)
  where
    go : (x : Bool) → goes_on Word (b ∷ s) ≡ x → count_while (goes_on Word) (map (counts true) s) ≡ count_while (goes_on Word) s
        → count_while (goes_on Word) (map (counts true) (b ∷ s)) ≡ count_while (goes_on Word) (b ∷ s)
    go true e ih =
        count_more (goes_on Word) (lower b) (map (counts true) s) (goes_same (b ∷ s) ∙ e) ∙ ap suc ih ∙ sym (count_more (goes_on Word) b s e)
    go false e ih = count_none (goes_on Word) (lower b) (map (counts true) s) (goes_same (b ∷ s) ∙ e) ∙ sym (count_none (goes_on Word) b s e)

begins_same : (w t : List ℕ) → begins (map (counts true) w) t ≡ begins w t
unfolding begins
begins_same [] t = refl
begins_same (b ∷ w) [] = refl
begins_same (b ∷ w) (x ∷ t) = ap₂ (λ (y z : Bool). y && z) (ap (λ (c : ℕ). eqb c x) (lower_twice b)) (begins_same w t)

spells_same : (w : List ℕ) (x : String) → spells (map (counts true) w) x ≡ spells w x
unfolding spells
spells_same w x = ap₂ (λ (y z : Bool). y && z) (ap (eqb (length (bytes_of x))) (length-map w (counts true))) (begins_same w (bytes_of x))

place_same : (k : ℕ) (w : List ℕ) (xs : List String) → place_from k (map (counts true) w) xs ≡ place_from k w xs
unfolding place_from
place_same k w [] = refl
place_same k w (x ∷ xs) =
    ap (λ (b : Bool). elim b [ true ↦ Some k | false ↦ place_from (suc k) (map (counts true) w) xs ]) (spells_same w x)
    ∙ ap (λ (p : Option ℕ). elim (spells w x) [ true ↦ Some k | false ↦ p ]) (place_same (suc k) w xs)

take_map : (n : ℕ) (s : List ℕ) → take n (map (counts true) s) ≡ map (counts true) (take n s)
take_map zero s = refl
take_map (suc n) [] = refl
take_map (suc n) (b ∷ s) = ap (λ (t : List ℕ). lower b ∷ t) (take_map n s)

-- an identifier is one in lower case
pub basic_lower : (n : List ℕ) → Basic n (length n) → Basic (map (counts true) n) (length (map (counts true) n))
basic_lower n h =
    let l : length (map (counts true) n) ≡ length n = length-map n (counts true) in
    record {
      letter = ap is_letter (lowered_at n 0) ∙ lower_letters (get_or n 0 0) h.letter;
      size = run_same n ∙ h.size ∙ sym l;
      free =
          ap (λ (k : ℕ). place_from 0 (take k (map (counts true) n)) reserved_words) l
          ∙ ap (λ (w : List ℕ). place_from 0 w reserved_words) (take_map (length n) n) ∙ place_same 0 (take (length n) n) reserved_words ∙ h.free;
    }

pub all_lower : (n : List ℕ) → in_lower_case (map (counts true) n) ≡ true
unfolding in_lower_case
all_lower [] = refl
all_lower (b ∷ n) = rw (eq-eqb (lower (lower b)) (lower b) (lower_twice b)) (all_lower n)

-- an extended one keeps its bytes
pub kept_same : (n : List ℕ) → map (counts false) n ≡ n
kept_same [] = refl
kept_same (b ∷ n) = ap (λ (t : List ℕ). b ∷ t) (kept_same n)
