-- Over the tables that a survey leaves, a lookup by name finds the first piece that claims the name, and nothing exactly where none does.
-- Assumes nothing.
use Prim.Native.Nat.{ℕ, ◌+◌, ◌-◌, ◌*◌, ◌/◌, ◌≤◌, ◌<◌}
use mathlib.Core.Path.{◌≡◌, refl, sym, ap, ap₂, subst, ◌∙◌}
use mathlib.Core.Logic.{inl, inr, ◌↔◌}
use mathlib.Core.Bool.{Bool, true, false, cond, ◌&&◌, ◌||◌, false≢true}
use mathlib.Core.List.{List, [], ◌∷◌, ◌++◌}
use native.Mathlib.Nat.{zero-add}
use native.Mathlib.Omega.{arith}
use borrow.Author.Tests.{leb-true}
use lib.Dec.{leb}
use lib.ListN.{length, get_or, length-append}
use Rattle.std.specs.Prelude.{Option, Some, None}
use Rattle.places.specs.Kinds.{extended_kind}
use Rattle.laws.proofs.Laws.{clash}
use Rattle.classes.specs.Signs as sign
use Rattle.classes.specs.Bytes.{is_letter, lower}
use Rattle.classes.specs.Signs as sign
use Rattle.places.specs.Kinds.{extended_kind}
use Rattle.element_reading.specs.Rows.{rows_of}
use Rattle.element_reading.proofs.Answers.{taken_read, table_read}
use Rattle.pieces.specs.Records.{record_words}
use Rattle.lookup.specs.Lookup.{claims_name, found_of}
use Rattle.lookup.specs.Finds.{Finds}
use Rattle.lookup.proofs.Promises.{found_exactly}
use Rattle.meaning.specs.Elements.{Piece, at}
use Rattle.meaning.specs.Pieces.{pieces_of}
use Rattle.meaning.specs.Names.{Done}
use Rattle.meaning.specs.code.PieceValues.{done_of, dones_from, dones_of, records_of}
use Rattle.meaning.proofs.Records.{pieces_done}
use Rattle.meaning.proofs.Places.{table_of}
use Rattle.meaning.proofs.Words.{items_length}
use Rattle.meaning.proofs.Words as held
use Rattle.meaning.proofs.Claims.{dones_length}
use Rattle.survey_reading.specs.code.Survey.{survey_of, elements_after_survey, items_after, item_table}
use Rattle.survey_reading.specs.declared.Summary.{Summary}
use Rattle.std.specs.Prelude.{Ok}
use Rattle.survey_reading.proofs.Promises.{surveyed_exactly, says_of_records}
use Rattle.survey_reading.proofs.Permits.{left_so}
use Rattle.kawhiluhe.specs.AnswerNumbers.{found_number}
use Rattle.claims.specs.Claims.{lowered, IsCalled, NoneClaims, FirstClaims, SaysFirst, FindsFirst, ByBackslash, FindsInStructs, FindsNumber}
use Rattle.claims.proofs.Finding.{claims_at, first_of, first_of_lem, at_same, at_first, first_at_lem, nothing_none, none_nothing}
use Rattle.claims.proofs.Letters.{Named, piece_named}

dones_pieces : (all : List Piece) (above : List Done) (ps : List Piece) → pieces_done (dones_from all above ps) ≡ ps
unfolding pieces_done dones_from
dones_pieces all above [] = refl
dones_pieces all above (p ∷ ps) = ap (λ (l : List Piece). p ∷ l) (dones_pieces all (above ++ done_of all above p ∷ []) ps)

-- ---- over any text's own tables

module _ (s : List ℕ) (name : List ℕ) where
  abbrev dones : List Done
  dones = dones_from (pieces_of s) [] (pieces_of s)

  cuts : pieces_done dones ≡ pieces_of s
  cuts = dones_pieces (pieces_of s) [] (pieces_of s)

  room_in : (z y : ℕ) → length (pieces_of s) ≤ length (held.item_table dones y) / record_words
  room_in z y = omega (arith, items_length dones y, dones_length s z y dones cuts)

  found_in : (z y : ℕ) → found_of s (table_of s z) name (held.item_table dones y) ≡ first_of name (pieces_of s) 0
  unfolding found_of
  found_in z y =
      first_of_lem name (claims_name s (table_of s z) name (held.item_table dones y)) (pieces_of s) 0 (length (held.item_table dones y) / record_words)
      (room_in z y)
      (λ k. ap (claims_name s (table_of s z) name (held.item_table dones y)) (zero-add k) ∙ claims_at s z y dones cuts name k)

  found_held : (z words : ℕ) → found_of s (table_of s z) name (item_table s words) ≡ first_of name (pieces_of s) 0
  unfolding item_table records_of dones_of
  found_held z words = found_in z (words - record_words * length (pieces_of s))

  room_held : (words : ℕ) → length (pieces_of s) ≤ length (item_table s words) / record_words
  unfolding item_table records_of dones_of
  room_held words = room_in 0 (words - record_words * length (pieces_of s))

-- ---- over the tables that a survey leaves

pub found_after : (s : List ℕ) (e w : ℕ) (x : Summary) → survey_of s e w ≡ Ok x → (name : List ℕ)
    → found_of s (elements_after_survey s e w) name (items_after s e w) ≡ first_of name (pieces_of s) 0
found_after s e w x h name =
    let r = says_of_records s e w x h in
    let t = (surveyed_exactly s e w).0 (x, h) in
    ap₂ (λ (a b : List ℕ). found_of s a name b) (r.1 ∙ table_read s e (taken_read s e t.0)) r.0 ∙ found_held s name (e - 3 * length (rows_of s)) w

says_first : (name : List ℕ) (ps : List Piece) (x : Option ℕ) → x ≡ first_of name ps 0 → SaysFirst name ps x
says_first name ps x f = ((λ k. (there k, back k)), ((λ q. nothing_none name ps 0 (sym f ∙ q)), λ n. f ∙ none_nothing name ps 0 n))
  where
    there : (k : ℕ) → x ≡ Some k → FirstClaims name ps k
    there k q =
        let z = at_first name ps 0 k (sym f ∙ q) in
        let o : z.0 ≡ k = sym (zero-add z.0) ∙ z.1 in
        subst (FirstClaims name ps) o z.2

    back : (k : ℕ) → FirstClaims name ps k → x ≡ Some k
    back k c =
        f ∙ ap (λ (l : List Piece). first_of name l 0) c.split ∙ first_at_lem name c.before c.piece c.after 0 c.unclaimed c.claimed
        ∙ ap Some (zero-add (length c.before) ∙ c.number)

pub finds_first : FindsFirst
finds_first s t u name x l g =
    let q = left_so s t u l in
    says_first name (pieces_of s) x
    ((found_exactly s t name u x).0 g
    ∙ ap₂ (λ (a b : List ℕ). found_of s a name b) q.elements_are q.items_are
    ∙ found_after s q.element_words q.item_words q.summary q.done name)

at_nothing : (i : ℕ) → Some i ≡ None → ⊥
at_nothing i e = let z : ◌≡◌ {A = ℕ} 0 1 = cc in clash z

-- ---- what is found begins as the name does

lowered_first : (l : List ℕ) → get_or (lowered l) 0 0 ≡ lower (get_or l 0 0)
unfolding lowered lower
lowered_first [] = refl
lowered_first (b ∷ l) = refl

-- no letter is a backslash in lower case
no_letter : (b : ℕ) → is_letter b ≡ true → lower b ≡ sign.backslash → ⊥
unfolding is_letter lower
no_letter b h e = go (leb 65 b) (leb b 90) (leb 97 b) refl refl h e
  where
    go : (u v w : Bool) → leb 65 b ≡ u → leb 97 b ≡ w → ((u && v) || (w && leb b 122)) ≡ true → cond (u && v) (b + 32) b ≡ sign.backslash → ⊥
    go true true w l m h e = omega (arith, leb-true 65 b l)
    go true false true l m h e = omega (arith, leb-true 97 b m)
    go true false false l m h e = false≢true h
    go false v true l m h e = omega (arith, leb-true 97 b m)
    go false v false l m h e = false≢true h

lower_backslash : lower sign.backslash ≡ sign.backslash
unfolding lower
lower_backslash = refl

pub by_backslash : ByBackslash
by_backslash text name k f = go f.claimed.1
  where
    named : Named (at f.piece 1)
    named = piece_named text f.before f.piece f.after 1 f.split

    go : IsCalled name (at f.piece 1) → ((at f.piece 1).kind ≡ extended_kind) ↔ (get_or name 0 0 ≡ sign.backslash)
    go (inl s) = (
      (λ e. absurd (omega (arith, s.0))),
      λ e. absurd
          (no_letter (get_or (at f.piece 1).bytes 0 0) (named.0 s.0)
          (sym (lowered_first (at f.piece 1).bytes) ∙ ap (λ (l : List ℕ). get_or l 0 0) s.1 ∙ lowered_first name ∙ ap lower e ∙ lower_backslash)),
    )
    go (inr s) = ((λ e. ap (λ (l : List ℕ). get_or l 0 0) (sym s.1) ∙ named.1 e), λ e. s.0)

-- ---- over item structs, and as a number

pub finds_in_structs : FindsInStructs
finds_in_structs s t u name structs x l q g = finds_first s t u name x l (subst (λ (v : List ℕ). Finds s t name v x) q g)

-- a piece that is found is one of them
first_within : (name : List ℕ) (ps : List Piece) (k : ℕ) → FirstClaims name ps k → k < length ps
first_within name ps k f = omega (arith, f.number, ap length f.split, length-append f.before (f.piece ∷ f.after))

pub finds_number : FindsNumber
finds_number s t u name x l g = go x (length u / record_words) room (finds_first s t u name x l g)
  where
    room : length (pieces_of s) ≤ length u / record_words
    room =
        let q = left_so s t u l in
        rw (q.items_are ∙ (says_of_records s q.element_words q.item_words q.summary q.done).0) (room_held s name q.item_words)

    go : (f : Option ℕ) (none : ℕ) → length (pieces_of s) ≤ none → SaysFirst name (pieces_of s) f
        → ((k : ℕ) → k < length (pieces_of s) → (found_number f none ≡ k) ↔ FirstClaims name (pieces_of s) k) × ((length (pieces_of s) ≤ found_number f none) ↔ NoneClaims name (pieces_of s))
    go (Some i) none room q = (
      (λ k l. ((λ z. (q.0 k).0 (ap Some z)), λ c. at_same i k ((q.0 k).1 c))),
      ((λ z. absurd (omega (arith, first_within name (pieces_of s) i ((q.0 i).0 refl)))), λ n. absurd (at_nothing i (q.1.1 n))),
    )
    go None none room q = ((λ k l. ((λ z. absurd (omega arith)), λ c. absurd (at_nothing k (sym ((q.0 k).1 c))))), ((λ z. q.1.0 refl), λ n. room))
