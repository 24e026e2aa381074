-- Laws of `begins` and `searched` at places of their lists, and that the search in a packed list finds the place in the list of words.
-- Assumes nothing.
use Rattle.std.proofs.Common.{Option, Some, None}
use mathlib.Core.Path.{◌≡◌, refl, sym, ap, ◌∙◌}
use mathlib.Core.Bool.{Bool, true, false, not, ◌&&◌, ◌||◌, false≢true, and-false}
use mathlib.Core.List.{List, [], ◌∷◌, ◌++◌}
use Prim.Native.Nat.{ℕ, zero, suc, ◌+◌, ◌-◌, ◌≤◌, ◌<◌}
use Prim.Native.String.{String}
use native.Mathlib.Nat.{add-suc}
use native.Mathlib.Numerals.{add-one}
use native.Mathlib.Omega.{arith}
use borrow.Author.Tests.{eq-eqb, ne_eqb, eqb-true, eqb-false, not-true}
use lib.Dec.{eqb}
use lib.ListN.{length, take, drop, get_or, drop_of_length-le}
use lib.Seq.{drop-cons, drop-drop, drop-append_seam}
use Rattle.laws.proofs.Laws.{both_left, both_right}
use Rattle.classes.specs.Bytes.{between, is_letter, lower}
use Rattle.classes.proofs.Laws.{part_rest, by_test, within_low, within_high, not_upper, not_lower}
use Rattle.words.specs.Words.{delimiters, bytes_of, begins, spells, place_from}
use Rattle.words.specs.code.Packed.{searched, byte_from}

-- the turns of `begins_with`: x is the byte in lower case
module _ (w t : List ℕ) (i : ℕ) (whole : Bool) where
  pub begins_all : begins (drop i w) (drop i t) ≡ whole → length w ≤ i → true ≡ whole
  unfolding begins
  begins_all v h = rw (drop_of_length-le w h) at v

  pub begins_short : begins (drop i w) (drop i t) ≡ whole → i < length w → length t ≤ i → false ≡ whole
  unfolding begins
  begins_short v h l = rw (drop-cons w i 0 h, drop_of_length-le t l) at v

  pub begins_not : (x : ℕ) → begins (drop i w) (drop i t) ≡ whole → i < length w → i < length t → x ≡ lower (get_or w i 0) → (x ≡ get_or t i 0 → ⊥) → false ≡ whole
  unfolding begins
  begins_not x v h l e n = rw (drop-cons w i 0 h, drop-cons t i 0 l, ← e, ne_eqb x _ n) at v

  pub begins_more : (x : ℕ) → begins (drop i w) (drop i t) ≡ whole → i < length w → i < length t → x ≡ lower (get_or w i 0) → x ≡ get_or t i 0 → begins (drop (i + 1) w) (drop (i + 1) t) ≡ whole
  unfolding begins
  begins_more x v h l e n = rw add-one (rw (drop-cons w i 0 h, drop-cons t i 0 l, ← e, eq-eqb x _ n) at v)

-- the bytes that are passed over
pub searched_over : (n k : ℕ) (w t : List ℕ) → searched n k w t ≡ searched 0 k w (drop n t)
unfolding searched
searched_over zero k w t = refl
searched_over (suc n) k w [] = refl
searched_over (suc n) k w (x ∷ t) = searched_over n k w t

-- the turns of `search`: x is the answer of `entry_is` for the word at i
module _ (w t : List ℕ) (i k : ℕ) (whole : Option ℕ) where
  found_here : i < length t → (eqb (get_or t i 0) (length w) && begins w (drop (suc i) t)) ≡ true → searched 0 k w (drop i t) ≡ Some k
  unfolding searched
  found_here h e = rw (drop-cons t i 0 h) (rw (e, searched))

  past_this : i < length t → (eqb (get_or t i 0) (length w) && begins w (drop (suc i) t)) ≡ false → searched 0 k w (drop i t) ≡ searched 0 (suc k) w (drop (suc i + get_or t i 0) t)
  unfolding searched
  past_this h e = rw (drop-cons t i 0 h) (rw (e, searched) (searched_over (get_or t i 0) (suc k) w (drop (suc i) t) ∙ rw drop-drop))

  pub search_end : searched 0 k w (drop i t) ≡ whole → length t ≤ i → None ≡ whole
  unfolding searched
  search_end v h = rw (drop_of_length-le t h) at v

  module _ (x : Bool) (v : searched 0 k w (drop i t) ≡ whole) (h : i < length t) (e : x ≡ (eqb (get_or t i 0) (length w) && begins w (take (length t - (i + 1)) (drop (i + 1) t)))) where
    test : (eqb (get_or t i 0) (length w) && begins w (drop (suc i) t)) ≡ x
    test = sym (rw (part_rest t (i + 1), add-one) at e)

    pub search_hit : x ≡ true → Some k ≡ whole
    search_hit y = sym (found_here h (test ∙ y)) ∙ v

    pub search_past : x ≡ false → searched 0 (k + 1) w (drop (i + 1 + get_or t i 0) t) ≡ whole
    search_past y = rw (add-one k, add-one i) (sym (past_this h (test ∙ y)) ∙ v)

-- what stands after a word does not matter
begins_front : (w b r : List ℕ) → length b ≡ length w → begins w (b ++ r) ≡ begins w b
unfolding begins
begins_front [] b r e = refl
begins_front (c ∷ w) [] r e = absurd (omega (arith, e))
begins_front (c ∷ w) (x ∷ b) r e = ap (λ (y : Bool). eqb (lower c) x && y) (begins_front w b r (omega (arith, e)))

entry_spells : (w : List ℕ) (x : String) (r : List ℕ) → (eqb (length (bytes_of x)) (length w) && begins w (bytes_of x ++ r)) ≡ spells w x
unfolding spells
entry_spells w x r = go (eqb (length (bytes_of x)) (length w)) refl
  where
    go : (y : Bool) → eqb (length (bytes_of x)) (length w) ≡ y → (y && begins w (bytes_of x ++ r)) ≡ (y && begins w (bytes_of x))
    go true e = begins_front w (bytes_of x) r (eqb-true _ _ e)
    go false e = refl

-- words in one string of bytes, each after its length
unfoldable pub packed : List String → List ℕ
packed [] = []
packed (x ∷ xs) = length (bytes_of x) ∷ (bytes_of x ++ packed xs)

pub packed_place : (k : ℕ) (w : List ℕ) (xs : List String) → searched 0 k w (packed xs) ≡ place_from k w xs
unfolding searched packed place_from
packed_place k w [] = refl
packed_place k w (x ∷ xs) = go (spells w x) refl (packed_place (suc k) w xs)
  where
    go : (y : Bool) → spells w x ≡ y → searched 0 (suc k) w (packed xs) ≡ place_from (suc k) w xs → searched 0 k w (packed (x ∷ xs)) ≡ place_from k w (x ∷ xs)
    go true e h = rw (entry_spells w x (packed xs) ∙ e, searched, e, place_from)
    go false e h = rw (entry_spells w x (packed xs) ∙ e, searched, e, place_from) (searched_over (length (bytes_of x)) (suc k) w (bytes_of x ++ packed xs) ∙ rw drop-append_seam h)

-- the first word of a list, or one of the others
place_first : (k : ℕ) (w : List ℕ) (x : String) (xs : List String) → spells w x ≡ true → place_from k w (x ∷ xs) ≡ Some k
unfolding place_from
place_first k w x xs t = rw (t, place_from)

place_later : (k : ℕ) (w : List ℕ) (x : String) (xs : List String) → spells w x ≡ false → place_from k w (x ∷ xs) ≡ place_from (suc k) w xs
unfolding place_from
place_later k w x xs t = rw (t, place_from)

place_none : (k : ℕ) (w : List ℕ) → place_from k w [] ≡ None
unfolding place_from
place_none k w = refl

-- a place is between the list
pub place_below : (xs : List String) (k n : ℕ) (w : List ℕ) → place_from k w xs ≡ Some n → n < k + length xs
unfolding place_from
place_below [] k n w e = let z : ◌≡◌ {A = ℕ} 0 1 = cc in absurd (omega arith)
place_below (x ∷ xs) k n w e = go (spells w x) refl (place_below xs (suc k) n w)
  where
    go : (y : Bool) → spells w x ≡ y → (place_from (suc k) w xs ≡ Some n → n < suc k + length xs) → n < k + suc (length xs)
    go true t h = let i : Some k ≡ Some n = sym (place_first k w x xs t) ∙ e in let j : k ≡ n = cc in omega arith
    go false t h = omega (arith, h (sym (place_later k w x xs t) ∙ e))

-- the turns of `byte_place`
module _ (b : ℕ) (t : List ℕ) (i k : ℕ) (whole : Option ℕ) (v : byte_from (k + i) b (drop i t) ≡ whole) where
  pub byte_hit : i < length t → get_or t i 0 ≡ b → Some (k + i) ≡ whole
  unfolding byte_from
  byte_hit h e = rw (drop-cons t i 0 h, eq-eqb (get_or t i 0) b e, byte_from) at v

  pub byte_past : i < length t → (get_or t i 0 ≡ b → ⊥) → byte_from (k + (i + 1)) b (drop (i + 1) t) ≡ whole
  unfolding byte_from
  byte_past h e = rw (add-one i, add-suc) (rw (drop-cons t i 0 h, ne_eqb (get_or t i 0) b e, byte_from) at v)

  pub byte_end : length t ≤ i → None ≡ whole
  unfolding byte_from
  byte_end h = rw (drop_of_length-le t h) at v

-- what is no letter is spelled by itself alone
lower_plain : (b x : ℕ) → is_letter x ≡ false → eqb (lower b) x ≡ eqb x b
unfolding lower
lower_plain b x p = by_test (λ (n : ℕ). eqb n x ≡ eqb x b) (between 65 90 b) (λ e. upper (within_low 65 90 b e) (within_high 65 90 b e)) (λ _. swap (eqb x b) refl)
  where
    upper : 65 ≤ b → b ≤ 90 → eqb (b + 32) x ≡ eqb x b
    upper l h = ne_eqb (b + 32) x (λ z. not_lower x p (omega arith) (omega arith)) ∙ sym (ne_eqb x b (λ z. not_upper x p (omega arith) (omega arith)))

    swap : (y : Bool) → eqb x b ≡ y → eqb b x ≡ eqb x b
    swap true e = eq-eqb b x (sym (eqb-true x b e)) ∙ sym e
    swap false e = ne_eqb b x (λ z. eqb-false x b e (sym z)) ∙ sym e

-- a list of words of one byte that is no letter, and of those bytes
abbrev pub plains : List String → Bool
plains [] = true
plains (x ∷ xs) = (eqb (length (bytes_of x)) 1 && not (is_letter (get_or (bytes_of x) 0 0))) && plains xs

abbrev firsts : List String → List ℕ
firsts [] = []
firsts (x ∷ xs) = get_or (bytes_of x) 0 0 ∷ firsts xs

one_spelled : (b : ℕ) (l : List ℕ) → length l ≡ 1 → is_letter (get_or l 0 0) ≡ false → (eqb (length l) 1 && begins (b ∷ []) l) ≡ eqb (get_or l 0 0) b
unfolding begins
one_spelled b [] e p = absurd (omega (arith, e))
one_spelled b (y ∷ []) e p = and_true (eqb (lower b) y) ∙ lower_plain b y p
  where
    and_true : (z : Bool) → (z && true) ≡ z
    and_true true = refl
    and_true false = refl
one_spelled b (y ∷ z ∷ l) e p = absurd (omega (arith, e))

pub plain_place : (xs : List String) (k b : ℕ) → plains xs ≡ true → byte_from k b (firsts xs) ≡ place_from k (b ∷ []) xs
unfolding byte_from place_from spells
plain_place [] k b p = refl
plain_place (x ∷ xs) k b p = go (spells (b ∷ []) x) refl (plain_place xs (suc k) b (both_right (both x) (plains xs) p))
  where
    both : String → Bool
    both x = eqb (length (bytes_of x)) 1 && not (is_letter (get_or (bytes_of x) 0 0))

    here : both x ≡ true
    here = both_left (both x) (plains xs) p

    one : length (bytes_of x) ≡ 1
    one = eqb-true _ _ (both_left (eqb (length (bytes_of x)) 1) (not (is_letter (get_or (bytes_of x) 0 0))) here)

    plain : is_letter (get_or (bytes_of x) 0 0) ≡ false
    plain = not-true (is_letter (get_or (bytes_of x) 0 0)) (both_right (eqb (length (bytes_of x)) 1) (not (is_letter (get_or (bytes_of x) 0 0))) here)

    go : (y : Bool) → spells (b ∷ []) x ≡ y → byte_from (suc k) b (firsts xs) ≡ place_from (suc k) (b ∷ []) xs → byte_from k b (firsts (x ∷ xs)) ≡ place_from k (b ∷ []) (x ∷ xs)
    go true e h = rw (sym (one_spelled b (bytes_of x) one plain) ∙ e, byte_from, e, place_from)
    go false e h = rw (sym (one_spelled b (bytes_of x) one plain) ∙ e, byte_from, e, place_from) h

-- the delimiters: those of one byte after those of two
abbrev pub pairs : List String
pairs = "=>" ∷ "**" ∷ ":=" ∷ "/=" ∷ ">=" ∷ "<=" ∷ "<>" ∷ []

abbrev pub singles : List String
singles = "&" ∷ "'" ∷ "(" ∷ ")" ∷ "*" ∷ "+" ∷ "," ∷ "-" ∷ "." ∷ "/" ∷ ":" ∷ ";" ∷ "<" ∷ "=" ∷ ">" ∷ "|" ∷ "[" ∷ "]" ∷ []

pub single_place : (b : ℕ) → place_from 7 (b ∷ []) singles ≡ place_from 0 (b ∷ []) delimiters
unfolding place_from spells begins bytes_of delimiters
single_place b = refl

pub pair_place : (b d : ℕ) → place_from 0 (b ∷ d ∷ []) pairs ≡ place_from 0 (b ∷ d ∷ []) delimiters
unfolding place_from spells begins bytes_of delimiters
pair_place b d = refl

-- no delimiter of two bytes ends with another byte than `=`, `>` and `*`
or_none : (x y z : Bool) → (x || y || z) ≡ false → (x ≡ false) × (y ≡ false) × (z ≡ false)
or_none false false false e = (refl, refl, refl)
or_none true y z e = absurd (false≢true (sym e))
or_none false true z e = absurd (false≢true (sym e))
or_none false false true e = absurd (false≢true (sym e))

lower_other : (d x : ℕ) → is_letter x ≡ false → eqb d x ≡ false → eqb (lower d) x ≡ false
lower_other d x p e = lower_plain d x p ∙ ne_eqb x d (λ z. eqb-false d x e (sym z))

not_pair : (b d x y : ℕ) → eqb (lower d) y ≡ false → (eqb (lower b) x && (eqb (lower d) y && true)) ≡ false
not_pair b d x y e = rw (e, and-false)

pub pair_none : (b d : ℕ) → (eqb d 61 || eqb d 62 || eqb d 42) ≡ false → None ≡ place_from 0 (b ∷ d ∷ []) delimiters
unfolding spells begins bytes_of is_letter
pair_none b d e =
    let x = or_none (eqb d 61) (eqb d 62) (eqb d 42) e in
    let w : List ℕ = b ∷ d ∷ [] in
    let p = lower_other d 61 refl x.0 in
    let q = lower_other d 62 refl x.1 in
    let r = lower_other d 42 refl x.2 in
    sym (sym (pair_place b d)
    ∙ place_later 0 w _ _ (not_pair b d 61 62 q)
    ∙ place_later 1 w _ _ (not_pair b d 42 42 r)
    ∙ place_later 2 w _ _ (not_pair b d 58 61 p)
    ∙ place_later 3 w _ _ (not_pair b d 47 61 p)
    ∙ place_later 4 w _ _ (not_pair b d 62 61 p)
    ∙ place_later 5 w _ _ (not_pair b d 60 61 p)
    ∙ place_later 6 w _ _ (not_pair b d 60 62 q)
    ∙ place_none 7 w)
