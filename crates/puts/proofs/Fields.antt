-- Fields one after the other. Assumes nothing.
use Prim.Native.Nat.{ℕ, suc, ◌+◌, ◌<◌}
use native.Mathlib.Numerals.{add-one}
use mathlib.Core.Path.{◌≡◌, ap, sym, ◌∙◌}
use mathlib.Core.List.{List, [], ◌∷◌, ◌++◌, append_assoc, append-nil}
use lib.ListN.{length, take, get_or}
use lib.Seq.{take-suc, take-length}
use Rattle.puts.specs.Puts.{Wrote}
use Rattle.puts.specs.Decimals.{space, signed_text, field_of, fields_of}
use Rattle.puts.proofs.Laws.{then, named}

pub field_put_lem : {t t₁ t₂ : List ℕ} {a b c : ℕ} (w : ℕ) → Wrote t a (space ∷ []) t₁ b → Wrote t₁ b (signed_text w) t₂ c → Wrote t a (field_of w) t₂ c
unfolding field_of
field_put_lem w p q = then p q

-- a field more, after the others
fields_snoc : (ws : List ℕ) (w : ℕ) → fields_of (ws ++ (w ∷ [])) ≡ fields_of ws ++ field_of w
unfolding fields_of
fields_snoc [] w = append-nil (field_of w)
fields_snoc (x ∷ ws) w =
    ap (λ (l : List ℕ). field_of x ++ l) (fields_snoc ws w) ∙ sym (append_assoc (field_of x) (fields_of ws) (field_of w))

fields_suc : (ws : List ℕ) (i : ℕ) → i < length ws → fields_of (take (suc i) ws) ≡ fields_of (take i ws) ++ field_of (get_or ws i 0)
fields_suc ws i h = ap fields_of (take-suc ws i 0 h) ∙ fields_snoc (take i ws) (get_or ws i 0)

pub field_more : {t t' t'' : List ℕ} {at m r : ℕ} (ws : List ℕ) (i : ℕ) → i < length ws → Wrote t at (fields_of (take i ws)) t' m
    → Wrote t' m (field_of (get_or ws i 0)) t'' r → Wrote t at (fields_of (take (i + 1) ws)) t'' r
field_more ws i h p q = named (rw add-one (fields_suc ws i h)) (then p q)

pub fields_all : {t t' : List ℕ} {at r : ℕ} (ws : List ℕ) (i : ℕ) → i ≡ length ws → Wrote t at (fields_of (take i ws)) t' r → Wrote t at (fields_of ws) t' r
fields_all ws i e p = named (sym (ap (λ (n : ℕ). fields_of (take n ws)) e ∙ ap fields_of (take-length ws))) p
