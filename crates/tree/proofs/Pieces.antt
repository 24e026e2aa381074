-- A piece read by itself, in the code's terms: the symbol from which it is read, what the scan found, and its rows. Assumes nothing.
use Rattle.std.specs.Prelude.{Option, Some, None, Ok, Err}
use Prim.Native.Nat.{ℕ, zero, suc, ◌/◌, ◌≤◌}
use mathlib.Core.Path.{◌≡◌, refl, sym, ◌∙◌, ap, subst}
use mathlib.Core.Logic.{inl, inr}
use mathlib.Core.Bool.{Bool, true, false, cond}
use mathlib.Core.List.{List}
use native.Mathlib.Omega.{arith}
use lib.Dec.{eqb}
use lib.ListN.{length, get_or}
use lib.Seq.{sets}
use Rattle.laws.proofs.Laws.{clash}
use Rattle.grammars.specs.code.Actions.{End, read, bad, stopped, spent}
use Rattle.same_names.specs.Alike.{same_name}
use Rattle.forms.specs.code.RuleNames.{constant, subtype}
use Rattle.forms.specs.Tree.{Row}
use Rattle.forms.specs.code.RuleActions.{State, Refusal, state_rows}
use Rattle.forms.specs.code.Reading.{reading_from}
use Rattle.forms.specs.code.ItemReading.{IsItem}
use Rattle.forms.proofs.ItemReading.{reads_items, kinds_alone, fewer_rows}
use Rattle.form_table.specs.code.Symbols.{sym_of}
use Rattle.form_table.specs.code.FormBytes.{encode}
use Rattle.pieces.specs.Kinds.{word_constant, word_subtype}
use Rattle.places.specs.Places.{cell_at, kinds_of}
use Rattle.places.proofs.Laws.{cell_in, kinds_length}
use Rattle.refusals.specs.declared.StrictRefusal.{StrictRefusal}
use Rattle.tree.specs.code.Answers.{terminals_in, terminals_of, Answer}
use Rattle.forms.specs.RowWords.{words_of}
use Rattle.tree.specs.code.Held.{Spans, ScanStarts, Tells}
use Rattle.tree.specs.code.PieceRows.{unlike, reading_by, reading_of_piece, rows_read, rows_of_piece, scan_start_of}
use Rattle.tree.proofs.Lists.{terminals_length}

-- not read, or read from an item's symbol
abbrev Known : Option ℕ → (List ℕ → End State Refusal) → Type 0
Known None by = (w : List ℕ) → by w ≡ bad 0
Known (Some from) by = ScanStarts from × IsItem (sym_of from) × ((w : List ℕ) → reading_from (sym_of from) unlike w ≡ by w)

known : (k : ℕ) → Known (scan_start_of k) (reading_by k)
known k = go (eqb k word_constant) (eqb k word_subtype)
  where
    go : (a b : Bool) → Known (cond a (Some (encode constant)) (cond b (Some (encode subtype)) None)) (λ w. cond a (reading_from constant unlike w) (cond b (reading_from subtype unlike w) (bad 0)))
    go true b = (inr (inl refl), inl refl, λ w. refl)
    go false true = (inr (inr refl), inr refl, λ w. refl)
    go false false = λ w. refl

terminals_kinds : (n : ℕ) (t : List ℕ) → terminals_of n t ≡ terminals_in (kinds_of n t)
unfolding terminals_of
terminals_kinds n t = refl

first_kind : (n : ℕ) (t : List ℕ) → 1 ≤ n → get_or (kinds_of n t) 0 0 ≡ get_or t 0 0
unfolding kinds_of
first_kind zero t h = absurd (omega arith)
first_kind (suc n) t h = refl

-- there are no more rows than elements
few : (p : List ℕ) (o : End State Refusal) → reading_of_piece p ≡ o → length (rows_read o) ≤ length p
unfolding reading_of_piece
few p (read s) e = go (scan_start_of (get_or p 0 0)) (known (get_or p 0 0))
  where
    go : (from : Option ℕ) → Known from (reading_by (get_or p 0 0)) → length (state_rows s) ≤ length p
    go None h = let z : ◌≡◌ {A = ℕ} 0 1 = cc (h (terminals_in p)) in clash z
    go (Some f) h =
        let r = (reads_items (sym_of f) h.1 unlike (terminals_in p) s).0 (h.2 (terminals_in p) ∙ e) in
        omega (arith, fewer_rows (sym_of f) h.1 unlike (terminals_in p) s r, terminals_length p)
few p (bad k) e = omega arith
few p (stopped k r) e = omega arith
few p spent e = omega arith

pub rows_few : (p : List ℕ) → length (rows_of_piece p) ≤ length p
unfolding rows_of_piece
rows_few p = few p (reading_of_piece p) refl

-- the start by the first row's kind
pub start_of_first : (t : List ℕ) (from : Option ℕ) (k : ℕ) → 1 ≤ length t / 3 → from ≡ scan_start_of k → k ≡ cell_at t 0 0 → from ≡ scan_start_of (get_or t 0 0)
start_of_first t from k h e q = e ∙ ap scan_start_of (q ∙ sym (cell_in t 0 0 h))

module _ (size : ℕ) (t : List ℕ) (some : 1 ≤ size) where
  is_piece : reading_by (get_or t 0 0) (terminals_of size t) ≡ reading_of_piece (kinds_of size t)
  unfolding reading_of_piece
  is_piece = rw (first_kind size t some, terminals_kinds size t)

  -- no rows, none written
  pub piece_unread : None ≡ scan_start_of (get_or t 0 0) → (rows : List ℕ) → rows ≡ sets rows 0 (words_of (rows_of_piece (kinds_of size t)))
  unfolding rows_of_piece
  piece_unread e rows =
      let h : Known None (reading_by (get_or t 0 0)) = subst (λ (x : Option ℕ). Known x (reading_by (get_or t 0 0))) (sym e) (known (get_or t 0 0)) in
      ap (λ (o : End State Refusal). sets rows 0 (words_of (rows_read o))) (sym (sym is_piece ∙ h (terminals_of size t)))

  module _ (from : ℕ) (e : Some from ≡ scan_start_of (get_or t 0 0)) where
    told_by : Known (Some from) (reading_by (get_or t 0 0))
    told_by = subst (λ (x : Option ℕ). Known x (reading_by (get_or t 0 0))) (sym e) (known (get_or t 0 0))

    pub starts : ScanStarts from
    starts = told_by.0

    module _ (cells next heads text : List ℕ) where
      -- what the scan answered
      abbrev Scanned : Answer → Type 0
      Scanned r = Tells r cells next heads (reading_from (sym_of from) (same_name text t) (terminals_of size t))

      tells_piece : (r : Answer) → Scanned r → Tells r cells next heads (reading_of_piece (kinds_of size t))
      tells_piece r tells =
          subst (Tells r cells next heads) (kinds_alone (sym_of from) told_by.1 (same_name text t) unlike (terminals_of size t) ∙ told_by.2 (terminals_of size t) ∙ is_piece) tells

      -- what the rows' writing asks
      pub piece_asks : (used : ℕ) → Scanned (Ok used)
          → ((rows : List Row) × (Spans cells next heads used 0 rows × (length rows ≡ used))) × (used ≤ size) × ((i : ℕ) → i ≤ used → get_or heads i 0 ≤ used)
      unfolding rows_of_piece
      piece_asks used tells = go (reading_of_piece (kinds_of size t)) refl (tells_piece (Ok used) tells)
        where
          go : (o : End State Refusal) → reading_of_piece (kinds_of size t) ≡ o → Tells (Ok used) cells next heads o
              → ((rows : List Row) × (Spans cells next heads used 0 rows × (length rows ≡ used))) × (used ≤ size) × ((i : ℕ) → i ≤ used → get_or heads i 0 ≤ used)
          go (read s) f h = ((state_rows s, (h.0, h.1)), omega (arith, h.1, few (kinds_of size t) (read s) f, kinds_length size t), h.3)
          go (bad j) f h = absurd h
          go (stopped j x) f h = absurd h
          go spent f h = absurd h

      pub piece_written : (used : ℕ) (rows rows' : List ℕ) → Scanned (Ok used) → ((l : List Row) → Spans cells next heads used 0 l → rows' ≡ sets rows 0 (words_of l))
          → rows' ≡ sets rows 0 (words_of (rows_of_piece (kinds_of size t)))
      unfolding rows_of_piece
      piece_written used rows rows' tells w = go (reading_of_piece (kinds_of size t)) (tells_piece (Ok used) tells)
        where
          go : (o : End State Refusal) → Tells (Ok used) cells next heads o → rows' ≡ sets rows 0 (words_of (rows_read o))
          go (read s) h = w (state_rows s) h.0
          go (bad j) h = absurd h
          go (stopped j x) h = absurd h
          go spent h = absurd h

      -- no form fits: no rows
      pub piece_refused : (x : StrictRefusal) (rows : List ℕ) → Scanned (Err x) → rows ≡ sets rows 0 (words_of (rows_of_piece (kinds_of size t)))
      unfolding rows_of_piece
      piece_refused x rows tells = go (reading_of_piece (kinds_of size t)) (tells_piece (Err x) tells)
        where
          go : (o : End State Refusal) → Tells (Err x) cells next heads o → rows ≡ sets rows 0 (words_of (rows_read o))
          go (read s) h = absurd h
          go (bad j) h = refl
          go (stopped j y) h = refl
          go spent h = absurd h
