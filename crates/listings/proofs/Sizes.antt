-- How long a line of a survey's listing is at most. Assumes nothing.
use Prim.Native.Nat.{ℕ, zero, suc, ◌+◌, ◌-◌, ◌*◌, ◌/◌, ◌%◌, ◌^◌, ◌≤◌, ◌<◌}
use native.Mathlib.Nat.{pow-suc, le_trans}
use native.Mathlib.Omega.{arith}
use mathlib.Core.Path.{◌≡◌, refl}
use mathlib.Core.Bool.{Bool, true, false, cond, ◌&&◌}
use mathlib.Core.List.{List, [], ◌∷◌, ◌++◌}
use lib.Dec.{T, leb, ltb, eqb, leb→le}
use Prim.Native.String.{String}
use Rattle.pieces.specs.Records.{record_words}
use borrow.Author.Tests.{ltb-true, ltb-false}
use Rattle.puts.proofs.Numbers.{none_left, small, more}
use lib.ListN.{length, get_or, length-append, length-take, length-drop}
use Rattle.words.specs.Words.{bytes_of}
use Rattle.places.specs.Places.{cell_at, within}
use Rattle.records.specs.Records.{word_at, is_item}
use Rattle.puts.specs.Decimals.{digits_of, decimal_of, signed_text}
use Rattle.refused_line.specs.Refused.{refusal, place, counted, place_text, refused_of, line_by, whole_text}
use Rattle.listings.specs.WrittenParts.{beside_text, LinesFit}
use Rattle.item_words.specs.LineWords.{stretch_of, claim_text, folded_text, upper_of, value_text}
use Rattle.item_lines.specs.Lines.{spelled_of, state_word, state_words, result_of, item_of, line_of, head_of, listed_line, survey_line}

-- a choice is no longer than the longer
pub either : (b : Bool) (x y : List ℕ) {n : ℕ} → length x ≤ n → length y ≤ n → length (cond b x y) ≤ n
either true x y h k = h
either false x y h k = k

pub two : (x y : List ℕ) {m n k : ℕ} → length x ≤ m → length y ≤ n → m + n ≤ k → length (x ++ y) ≤ k
two x y h k l = omega (arith, length-append x y)

-- a number below a power of ten has no more digits than its exponent
digits_size : (f k n : ℕ) → n < 10 ^ suc k → length (digits_of f n) ≤ suc k
digits_size zero k n h = rw (none_left n) (omega arith)
digits_size (suc f) zero n h = rw (small (suc f) n h) (omega arith)
digits_size (suc f) (suc k) n h =
    let e : 10 ^ suc (suc k) ≡ 10 ^ suc k * 10 = pow-suc 10 (suc k) in
    by (ltb n 10) refl (digits_size f k (n / 10) (omega arith))
  where
    by : (b : Bool) → ltb n 10 ≡ b → length (digits_of f (n / 10)) ≤ suc k → length (digits_of (suc f) n) ≤ suc (suc k)
    by true q ih = rw (small (suc f) n (ltb-true n 10 q)) (omega arith)
    by false q ih = rw (more f n (ltb-false n 10 q))
        (two (digits_of f (n / 10)) ((48 + n % 10) ∷ []) {m = suc k} {n = 1} ih (omega arith) (omega arith))

pub decimal_size : (n : ℕ) → n ≤ 2 ^ 64 → length (decimal_of n) ≤ 20
unfolding decimal_of
decimal_size n h = digits_size n 19 n (omega arith)

signed_size : (w : ℕ) → w < 2 ^ 64 → length (signed_text w) ≤ 21
unfolding signed_text
signed_size w h =
    either (ltb w 9223372036854775808) _ _ (le_trans (decimal_size w (omega arith)) (omega arith))
    (let e = decimal_size (18446744073709551616 - w) (omega arith) in omega arith)

pub stretch_size : (s : List ℕ) (first size : ℕ) → length (stretch_of s first size) ≤ length s
unfolding stretch_of
stretch_size s first size = either (within s first size) _ _ (simp (length-take, length-drop) (omega arith)) (omega arith)

spelled_size : (s els : List ℕ) (e : ℕ) → length (spelled_of s els e) ≤ length s
unfolding spelled_of
spelled_size s els e = stretch_size s (cell_at els e 1) (cell_at els e 2)

pub claim_size : (class : ℕ) (name : List ℕ) → length (claim_text class name) ≤ length name + 10
unfolding claim_text bytes_of
claim_size class name = either (eqb class 3) _ _ (omega arith) (either (eqb class 4) _ _ (omega arith) (omega arith))

-- each word of a list has at most n bytes
abbrev Short : ℕ → List String → Type 0
Short n [] = Unit
Short n (x ∷ l) = T (leb (length (bytes_of x)) n) × Short n l

short_at : (n : ℕ) (l : List String) (i : ℕ) (d : String) → Short n l → T (leb (length (bytes_of d)) n) → length (bytes_of (get_or l i d)) ≤ n
short_at n [] i d h k = leb→le _ n k
short_at n (x ∷ l) zero d h k = leb→le _ n h.0
short_at n (x ∷ l) (suc i) d h k = short_at n l i d h.1 k

state_size : (state : ℕ) → length (state_word state) ≤ 9
unfolding state_word state_words bytes_of
state_size state = short_at 9 state_words state " range" (tt, (tt, (tt, (tt, (tt, (tt, (tt, (tt, (tt, (tt, tt)))))))))) tt

folded_size : (kind word : ℕ) → word < 2 ^ 64 → length (folded_text kind word) ≤ 21
unfolding folded_text bytes_of
folded_size kind word h = either (eqb kind 2) _ _ (either (eqb word 0) _ _ (omega arith) (omega arith)) (signed_size word h)

upper_size : (class kind high : ℕ) → high < 2 ^ 64 → length (upper_of class kind high) ≤ 25
unfolding upper_of bytes_of
upper_size class kind high h = let n = folded_size kind high h in either (eqb class 4) _ _ (omega arith) (omega arith)

pub value_size_lem : (class kind low high : ℕ) → low < 2 ^ 64 → high < 2 ^ 64 → length (value_text class kind low high) ≤ 53
unfolding value_text bytes_of
value_size_lem class kind low high h k =
    two (bytes_of " value ") (folded_text kind low ++ upper_of class kind high) {m = 7} {n = 46} (omega arith) (two (folded_text kind low) (upper_of class kind high) (folded_size kind low h) (upper_size class kind high k) (omega arith)) (omega arith)

pub below : (b : Bool) {x y n : ℕ} → x < n → y < n → cond b x y < n
below true h k = h
below false h k = k

module _ (items : List ℕ) (words : (k : ℕ) → get_or items k 0 < 2 ^ 64) where
  word_below : (i j : ℕ) → word_at items i j < 2 ^ 64
  unfolding word_at
  word_below i j = below (ltb j record_words && ltb i (length items / record_words)) (words (record_words * i + j)) (omega arith)

  result_size : (i : ℕ) → length (result_of items i) ≤ 53
  unfolding result_of
  result_size i =
      either (eqb (word_at items i 4) 0) _ _ (value_size_lem (word_at items i 0) (word_at items i 5) _ _ (word_below i 6) (word_below i 7))
      (le_trans (state_size (word_at items i 4)) (omega arith))

  item_size : (s els : List ℕ) (i : ℕ) → i < 2 ^ 64 → length (item_of s els items i) ≤ length s + beside_text
  unfolding item_of
  item_size s els i h =
      let name = spelled_of s els (word_at items i 3) in
      let a = claim_text (word_at items i 0) name in
      let claimed : length a ≤ length s + 10 = omega (arith, claim_size (word_at items i 0) name, spelled_size s els (word_at items i 3)) in
      let b = result_of items i ++ (10 ∷ []) in
      two (decimal_of i) (a ++ b) (decimal_size i (omega arith))
      (two a b {k = length s + 64} claimed
      (two (result_of items i) (10 ∷ []) {n = 1} {k = 54} (result_size i) (omega arith) (omega arith)) (omega arith)) (omega arith)

  line_size : (s els : List ℕ) (i : ℕ) → i < 2 ^ 64 → length (line_of s els items i) ≤ length s + beside_text
  unfolding line_of
  line_size s els i h = either (is_item (word_at items i 0)) _ _ (item_size s els i h) (omega arith)

whole_size : (w : ℕ) → length (whole_text w) ≤ 11
unfolding whole_text bytes_of
whole_size w = either (eqb w 1) _ _ (omega arith) (omega arith)

head_size_lem : (n w : ℕ) → n < 2 ^ 64 → length (head_of n w) ≤ 38
unfolding head_of bytes_of
head_size_lem n w h =
    two (bytes_of "pieces ") (decimal_of n ++ whole_text w) {m = 7} {n = 31} (omega arith)
    (two (decimal_of n) (whole_text w) (decimal_size n (omega arith)) (whole_size w) (omega arith)) (omega arith)

place_size : (n : ℕ) → n < 2 ^ 64 → length (place_text n) ≤ 25
unfolding place_text bytes_of
place_size n h =
    two (bytes_of " at ") (decimal_of n ++ (10 ∷ [])) {m = 4} {n = 21} (omega arith)
    (two (decimal_of n) (10 ∷ []) {n = 1} (decimal_size n (omega arith)) (omega arith) (omega arith)) (omega arith)

pub refused_size : (n at : ℕ) → n < 2 ^ 64 → at < 2 ^ 64 → length (refused_of n at) ≤ 53
unfolding refused_of bytes_of
refused_size n at h k =
    two (bytes_of "refused ") (decimal_of n ++ place_text at) {m = 8} {n = 45} (omega arith)
    (two (decimal_of n) (place_text at) (decimal_size n (omega arith)) (place_size at k) (omega arith)) (omega arith)

listed_size : (s els items answer : List ℕ) (i : ℕ) → i < 2 ^ 64 → ((k : ℕ) → get_or items k 0 < 2 ^ 64) → ((k : ℕ) → get_or answer k 0 < 2 ^ 64)
    → length (listed_line s els items answer i) ≤ length s + beside_text
unfolding listed_line
listed_size s els items answer zero h w a = le_trans (head_size_lem (get_or answer counted 0) (get_or answer 4 0) (a counted)) (omega arith)
listed_size s els items answer (suc i) h w a = line_size items w s els i (omega arith)

-- the longest line: the text's bytes, if they are all a name's, and some more
pub lines_fit : LinesFit
unfolding survey_line line_by
lines_fit s els items answer i h w a =
    either (eqb (get_or answer refusal 0) 0) _ _ (listed_size s els items answer i h w a)
    (le_trans (refused_size (get_or answer refusal 0) (get_or answer place 0) (a refusal) (a place)) (omega arith))
