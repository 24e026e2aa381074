-- The turns of the loops over lines and their elements, in the code's terms: each premise is what the invariant, the loop's test, a call or
-- the match gives. Assumes nothing.
use mathlib.Core.Path.{◌≡◌, sym, ap, ◌∙◌}
use mathlib.Core.Bool.{Bool, false}
use mathlib.Core.List.{List, [], ◌++◌}
use Prim.Native.Nat.{ℕ, ◌+◌, ◌-◌, ◌^◌, ◌≤◌, ◌<◌}
use native.Mathlib.Numerals.{add-one}
use native.Mathlib.Nat.{add-suc, add-sub_cancel_left}
use native.Mathlib.Omega.{arith}
use mir.Val.{Fits}
use mir.Syntax.{w64}
use lib.ListN.{length, take, drop, length-append, length-drop, drop_of_length-le}
use lib.Seq.{drop-drop, length-take-le}
use Rattle.classes.specs.Runs.{count_while}
use Rattle.classes.proofs.Laws.{count_le, part_rest}
use Rattle.elements.specs.Kinds.{kind_number}
use Rattle.elements.specs.Element.{element_at, ticks_after}
use Rattle.elements.specs.declared.Kind.{Kind}
use Rattle.elements.specs.declared.Front.{Front}
use Rattle.elements.specs.declared.Front.TheVariants.{Skip, Element}
use Rattle.elements.proofs.Sizes.{size_of}
use Rattle.element_reading.specs.Rows.{lines_of, line_rows, lines_rows}
use Rattle.element_reading.specs.code.LineEnds.{in_line}
use Rattle.places.specs.Places.{put_row}
use Rattle.element_reading.specs.Table.{puts}
use Rattle.element_reading.proofs.LineLaws.{line_skip, line_element, line_end, place_good, line_few}
use Rattle.element_reading.proofs.TextLaws.{text_first, lines_none}
use Rattle.element_reading.proofs.TableLaws.{length_put, length_puts, puts_append}

-- an element, or what is none, in a line that begins at the byte `at`; st is what stands at i
module _ (l : List ℕ) (at i : ℕ) (ticks : Bool) (st : Front) (h : i < length l) (e : st ≡ element_at ticks (take (length l - i) (drop i l))) where
  here : (f : Front) → st ≡ f → element_at ticks (drop i l) ≡ f
  here f m = sym (rw (part_rest l i) at e) ∙ m

  within : (f : Front) → st ≡ f → (1 ≤ size_of f) × (i + size_of f ≤ length l)
  within f m = rw (here f m) at (place_good l i ticks h)

  module _ (k : ℕ) where
    pub skip_in : st ≡ Skip k → i + k ≤ length l
    skip_in m = (within (Skip k) m).1

    pub skip_fits : st ≡ Skip k → length l < 2 ^ 64 → Fits w64 (i + k)
    skip_fits m g = omega (arith, within (Skip k) m)

    pub skip_less : st ≡ Skip k → length l - (i + k) < length l - i
    skip_less m = omega (arith, within (Skip k) m)

    pub skip_below : (n : ℕ) → st ≡ Skip k → n ≤ at + i → n ≤ at + (i + k)
    skip_below n m b = omega arith

    pub skip_count : (n total : ℕ) → n + length (line_rows 0 (at + i) ticks (drop i l)) ≡ total → st ≡ Skip k → n + length (line_rows 0 (at + (i + k)) ticks (drop (i + k) l)) ≡ total
    skip_count n total v m = omega (arith, ap length (line_skip l at i k ticks h (here (Skip k) m)))

    pub skip_puts : (n : ℕ) (t whole : List ℕ) → puts t n (line_rows 0 (at + i) ticks (drop i l)) ≡ whole → st ≡ Skip k → puts t n (line_rows 0 (at + (i + k)) ticks (drop (i + k) l)) ≡ whole
    skip_puts n t whole v m = rw (line_skip l at i k ticks h (here (Skip k) m)) at v

    module _ (kind : Kind) where
      pub add_in : st ≡ Element kind k → i + k ≤ length l
      add_in m = (within (Element kind k) m).1

      pub add_fits : st ≡ Element kind k → length l < 2 ^ 64 → Fits w64 (i + k)
      add_fits m g = omega (arith, within (Element kind k) m)

      pub add_less : st ≡ Element kind k → length l - (i + k) < length l - i
      add_less m = omega (arith, within (Element kind k) m)

      pub add_below : (n : ℕ) → st ≡ Element kind k → n ≤ at + i → n + 1 ≤ at + (i + k)
      add_below n m b = omega (arith, within (Element kind k) m)

      pub add_count : (n total : ℕ) (after : Bool) → st ≡ Element kind k → after ≡ ticks_after kind → n + length (line_rows 0 (at + i) ticks (drop i l)) ≡ total → n + 1 + length (line_rows 0 (at + (i + k)) after (drop (i + k) l)) ≡ total
      add_count n total after m a v = rw a (omega (arith, ap length (line_element l at i k ticks h kind (here (Element kind k) m))))

      pub add_puts : (n kn : ℕ) (after : Bool) (t u whole : List ℕ) → st ≡ Element kind k → kn ≡ kind_number kind → after ≡ ticks_after kind → puts t n (line_rows 0 (at + i) ticks (drop i l)) ≡ whole → u ≡ put_row t n kn (at + i) k → puts u (n + 1) (line_rows 0 (at + (i + k)) after (drop (i + k) l)) ≡ whole
      unfolding puts
      add_puts n kn after t u whole m q a v p = rw (a, p, q, add-one) (rw (line_element l at i k ticks h kind (here (Element kind k) m)) at v)

pub kept_length : (t u t₀ : List ℕ) (n kn f k : ℕ) → length t ≡ length t₀ → u ≡ put_row t n kn f k → length u ≡ length t₀
kept_length t u t₀ n kn f k v p = ap length p ∙ length_put t n kn f k ∙ v

-- the end of a line
module _ (l : List ℕ) (at i n : ℕ) (ticks : Bool) where
  pub line_counted : (total : ℕ) → n + length (line_rows 0 (at + i) ticks (drop i l)) ≡ total → length l ≤ i → n ≡ total
  line_counted total v h = omega (arith, ap length (line_end l (at + i) i ticks h))

  pub line_put : (t whole : List ℕ) → puts t n (line_rows 0 (at + i) ticks (drop i l)) ≡ whole → length l ≤ i → t ≡ whole
  unfolding puts
  line_put t whole v h = rw (line_end l (at + i) i ticks h) at v

-- a line of a text, k bytes long, that begins at the byte `at`; m elements stand after it
module _ (s : List ℕ) (at k : ℕ) (h : at < length s) (e : k ≡ count_while in_line (take (length s - at) (drop at s))) where
  long : k ≡ count_while in_line (drop at s)
  long = rw (part_rest s at) at e

  pub line_in : at + k ≤ length s
  line_in = omega (arith, long, count_le in_line (drop at s), length-drop at s)

  rows : lines_rows at (lines_of (drop at s)) ≡ line_rows 0 at false (take (at + k - at) (drop at s)) ++ lines_rows (at + k + 1) (lines_of (drop (at + k + 1) s))
  rows = text_first (drop at s) at k long ∙ rw (add-sub_cancel_left, add-one, drop-drop, add-suc)

  line_size : length (take (at + k - at) (drop at s)) ≡ k
  line_size = rw add-sub_cancel_left (length-take-le k (drop at s) (omega (arith, line_in, length-drop at s)))

  pub line_asks : length s ≤ 65536 → at + length (take (at + k - at) (drop at s)) ≤ 65536
  line_asks g = omega (arith, line_size, line_in)

  module _ (n m : ℕ) (c : m ≡ n + length (line_rows 0 at false (take (at + k - at) (drop at s)))) where
    pub text_below : n ≤ at → m ≤ at + k + 1
    text_below b = omega (arith, c, line_size, line_few (take (at + k - at) (drop at s)) 0 at false)

    pub text_count : (total : ℕ) → n + length (lines_rows at (lines_of (drop at s))) ≡ total → m + length (lines_rows (at + k + 1) (lines_of (drop (at + k + 1) s))) ≡ total
    text_count total v = omega (arith, c, v, ap length rows ∙ length-append (line_rows 0 at false (take (at + k - at) (drop at s))) _)

    pub text_puts : (t u whole : List ℕ) → puts t n (lines_rows at (lines_of (drop at s))) ≡ whole → u ≡ puts t n (line_rows 0 at false (take (at + k - at) (drop at s))) → puts u m (lines_rows (at + k + 1) (lines_of (drop (at + k + 1) s))) ≡ whole
    text_puts t u whole v p = rw (p, c) (sym (puts_append t n (line_rows 0 at false (take (at + k - at) (drop at s))) _) ∙ sym (ap (puts t n) rows) ∙ v)

  pub text_length : (n : ℕ) (t u t₀ : List ℕ) → length t ≡ length t₀ → u ≡ puts t n (line_rows 0 at false (take (at + k - at) (drop at s))) → length u ≡ length t₀
  text_length n t u t₀ v p = ap length p ∙ length_puts t n (line_rows 0 at false (take (at + k - at) (drop at s))) ∙ v

-- the end of a text
module _ (s : List ℕ) (at n : ℕ) where
  none_left : length s ≤ at → lines_rows at (lines_of (drop at s)) ≡ []
  none_left h = rw (drop_of_length-le s h) (lines_none at)

  pub text_counted : (total : ℕ) → n + length (lines_rows at (lines_of (drop at s))) ≡ total → length s ≤ at → n ≡ total
  text_counted total v h = omega (arith, ap length (none_left h))

  pub text_put : (t whole : List ℕ) → puts t n (lines_rows at (lines_of (drop at s))) ≡ whole → length s ≤ at → t ≡ whole
  unfolding puts
  text_put t whole v h = rw (none_left h) at v
