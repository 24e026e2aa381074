-- Writing the rows out in order: what is stored so far, with what is left, is the whole. Assumes nothing.
use Prim.Native.Nat.{ℕ, suc, ◌+◌, ◌*◌, ◌-◌, ◌≤◌, ◌<◌}
use mathlib.Core.Path.{◌≡◌, refl, sym, ◌∙◌, ap, subst}
use mathlib.Core.List.{List, [], ◌∷◌, ◌++◌}
use native.Mathlib.Omega.{arith}
use native.Mathlib.Numerals.{add-one}
use lib.ListN.{length, get_or, set}
use lib.Seq.{sets}
use Rattle.forms.specs.Tree.{Row}
use Rattle.forms.specs.RowWords.{words_of}
use Rattle.forms.specs.RowWords.{row_at}
use Rattle.tree.specs.code.Held.{Linked, none, more, Spans, empty, join}
use Rattle.tree.proofs.Holding.{spans_le, spans_one}

-- rest of the list that is being written, and the lists of the bases from `base` on
pub record Left (cells next heads tab₀ tab : List ℕ) (used base link out : ℕ) : Type 0 where
  pub here : List Row
  pub there : List Row
  pub linked : Linked cells next link here
  pub spans : Spans cells next heads used base there
  pub counted : out + length (here ++ there) ≡ used
  pub low : link ≤ used
  pub stored : (rows : List Row) → Spans cells next heads used 0 rows → sets tab (5 * out) (words_of (here ++ there)) ≡ sets tab₀ 0 (words_of rows)

row_put : (T ws : List ℕ) (at f i n s o : ℕ)
    → sets T at (f ∷ i ∷ n ∷ s ∷ o ∷ ws) ≡ sets (set (set (set (set (set T at f) (at + 1) i) (at + 2) n) (at + 3) s) (at + 4) o) (at + 5) ws
row_put T ws at f i n s o = step (omega arith) (omega arith) (omega arith) (omega arith) (omega arith)
  where
    step : {p q r t u : ℕ} → p ≡ suc at → q ≡ suc (suc at) → r ≡ suc (suc (suc at)) → t ≡ suc (suc (suc (suc at))) → u ≡ suc (suc (suc (suc (suc at))))
        → sets T at (f ∷ i ∷ n ∷ s ∷ o ∷ ws) ≡ sets (set (set (set (set (set T at f) p i) q n) r s) t o) u ws
    step e1 e2 e3 e4 e5 = rw (e1, e2, e3, e4, e5)

pub all_left : {cells next heads tab₀ : List ℕ} {used : ℕ} (rows : List Row) → Spans cells next heads used 0 rows → length rows ≡ used → Left cells next heads tab₀ tab₀ used 0 0 0
all_left {tab₀ = tab₀} rows s e =
    record {
      here = [];
      there = rows;
      linked = none;
      spans = s;
      counted = omega arith;
      low = omega arith;
      stored = λ r t. ap (λ (l : List Row). sets tab₀ 0 (words_of l)) (spans_one s t);
    }

no_rows : {cells next : List ℕ} {h : ℕ} {l : List Row} → Linked cells next h l → h ≡ 0 → l ≡ []
no_rows none e = refl
no_rows (more a b k) e = absurd (omega arith)

module _ {cells next heads tab₀ tab : List ℕ} {used : ℕ} where
  module _ {base link out : ℕ} (g : Left cells next heads tab₀ tab used base link out) where
    opened : (l : List Row) → Spans cells next heads used base l → length l + out ≡ used → out < used → ((rows : List Row) → Spans cells next heads used 0 rows → sets tab (5 * out) (words_of l) ≡ sets tab₀ 0 (words_of rows))
        → get_or heads base 0 ≤ used → (base < used) × Left cells next heads tab₀ tab used (base + 1) (get_or heads base 0) out
    opened l (empty e) c o s w = absurd (omega arith)
    opened l (join {h = h} {l = x} {m = y} e k r a) c o s w = (
      spans_le r,
      record {
        here = x;
        there = y;
        linked = subst (λ (j : ℕ). Linked cells next j x) (sym e) k;
        spans = subst (λ (j : ℕ). Spans cells next heads used j y) (sym (add-one base)) r;
        counted = omega (arith, ap length a);
        low = w;
        stored = λ rows t. ap (λ (q : List Row). sets tab (5 * out) (words_of q)) a ∙ s rows t;
      },
    )

    bare : link ≡ 0 → g.here ++ g.there ≡ g.there
    bare z = ap (λ (l : List Row). l ++ g.there) (no_rows g.linked z)

    pub next_base : link ≡ 0 → out < used → ((i : ℕ) → i ≤ used → get_or heads i 0 ≤ used) → (base < used) × Left cells next heads tab₀ tab used (base + 1) (get_or heads base 0) out
    next_base z o w =
        let c = g.counted in
        opened g.there g.spans (omega (arith, ap length (bare z))) o
        (λ rows t. ap (λ (l : List Row). sets tab (5 * out) (words_of l)) (sym (bare z)) ∙ g.stored rows t) (w base (spans_le g.spans))

    taken : (h : ℕ) (l m : List Row) (r : ℕ) → h ≡ suc r → Linked cells next h l → out + length (l ++ m) ≡ used → h ≤ used → Spans cells next heads used base m
        → ((rows : List Row) → Spans cells next heads used 0 rows → sets tab (5 * out) (words_of (l ++ m)) ≡ sets tab₀ 0 (words_of rows))
        → Left cells next heads tab₀
        (set (set (set (set (set tab (5 * out) (get_or cells (5 * r) 0)) (5 * out + 1) (get_or cells (5 * r + 1) 0)) (5 * out + 2) (get_or cells (5 * r + 2) 0)) (5 * out + 3) (get_or cells (5 * r + 3) 0)) (5 * out + 4) (get_or cells (5 * r + 4) 0))
        used base (get_or next r 0) (out + 1)
    taken h [] m r z none c w s f = absurd (omega arith)
    taken h (x ∷ l) m r z (more {r = q} {h = j} e b k) c w s f =
        let y : q ≡ r = omega arith in
        let n : get_or next r 0 ≡ j = ap (λ (i : ℕ). get_or next i 0) (sym y) ∙ e in
        let u : 5 * out + 5 ≡ 5 * (out + 1) = omega arith in
        record {
          here = l;
          there = m;
          linked = subst (λ (i : ℕ). Linked cells next i l) (sym n) k;
          spans = s;
          counted = omega arith;
          low = omega arith;
          stored = λ rows t.
              ap (λ (i : ℕ). sets (put r) i (words_of (l ++ m))) (sym u)
              ∙ sym (row_put tab (words_of (l ++ m)) (5 * out) (get_or cells (5 * r) 0) (get_or cells (5 * r + 1) 0) (get_or cells (5 * r + 2) 0) (get_or cells (5 * r + 3) 0) (get_or cells (5 * r + 4) 0))
              ∙ ap (λ (i : ℕ). sets tab (5 * out) (words_of (row_at cells i ∷ l ++ m))) (sym y)
              ∙ f rows t;
        }
      where
        put : ℕ → List ℕ
        put r = set (set (set (set (set tab (5 * out) (get_or cells (5 * r) 0)) (5 * out + 1) (get_or cells (5 * r + 1) 0)) (5 * out + 2) (get_or cells (5 * r + 2) 0)) (5 * out + 3) (get_or cells (5 * r + 3) 0)) (5 * out + 4) (get_or cells (5 * r + 4) 0)

    pub next_row : (link ≡ 0 → ⊥) → Left cells next heads tab₀
        (set (set (set (set (set tab (5 * out) (get_or cells (5 * (link - 1)) 0)) (5 * out + 1) (get_or cells (5 * (link - 1) + 1) 0)) (5 * out + 2) (get_or cells (5 * (link - 1) + 2) 0)) (5 * out + 3) (get_or cells (5 * (link - 1) + 3) 0)) (5 * out + 4) (get_or cells (5 * (link - 1) + 4) 0))
        used base (get_or next (link - 1) 0) (out + 1)
    next_row z = taken link g.here g.there (link - 1) (omega arith) g.linked g.counted g.low g.spans g.stored

    pub bases_bound : base ≤ used
    bases_bound = spans_le g.spans

    pub all_written : used ≤ out → (rows : List Row) → Spans cells next heads used 0 rows → tab ≡ sets tab₀ 0 (words_of rows)
    all_written o rows t = let c = g.counted in ap (λ (l : List Row). sets tab (5 * out) (words_of l)) (sym (nothing (g.here ++ g.there) (omega arith))) ∙ g.stored rows t
      where
        nothing : (l : List Row) → length l ≡ 0 → l ≡ []
        nothing [] e = refl
        nothing (x ∷ l) e = absurd (omega arith)
