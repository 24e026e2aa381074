-- The words of the records that a survey leaves, by what their pieces come to. Assumes nothing.
use Prim.Native.Nat.{ℕ, zero, suc, ◌+◌, ◌-◌, ◌*◌, ◌≤◌, ◌<◌}
use mathlib.Core.Path.{◌≡◌, refl, sym, ap, ap₂, subst, ◌∙◌}
use mathlib.Core.Logic.{◌↔◌}
use mathlib.Core.Bool.{Bool, true}
use mathlib.Core.List.{List, [], ◌∷◌, ◌++◌, append-nil, append_assoc}
use native.Mathlib.Omega.{arith}
use lib.ListN.{length, get_or, take, replicate}
use Rattle.records.specs.Records.{word_at, is_item}
use Rattle.pieces.specs.Columns as column
use Rattle.records.specs.Tallies.{in_state}
use Rattle.states.specs.States as states
use Rattle.values.specs.ValueWords.{state_of, value_kind, low_of, high_of, value_words}
use Rattle.values.specs.declared.Value.{Value}
use Rattle.values.specs.declared.Value.TheVariants.{Number, Truth, Range, Truths, Without}
use Rattle.meaning.specs.Elements.{Piece}
use Rattle.meaning.specs.Pieces.{pieces_of, class_of}
use Rattle.meaning.specs.Names.{own_doubled, Done, use_of}
use Rattle.meaning.specs.ItemForms.{ItemForm, HasForm}
use Rattle.meaning.specs.States.{Met, Least, NoneMet}
use Rattle.meaning.specs.Values.{Gives}
use Rattle.meaning.specs.Meaning.{Comes, stands, gives}
use Rattle.meaning.specs.code.PieceValues.{value_of, done_of, dones_from}
use Rattle.meaning.specs.Records.{item_value_words}
use Rattle.meaning.specs.Together.{piece_at, GoodFrame, AllFold}
use Rattle.meaning.specs.FittingPieces.{FitsAForm}
use Rattle.meaning.proofs.Records.{pieces_length}
use Rattle.meaning.proofs.Words.{done_at, pieces_at, class_at_lem, value_word}
use Rattle.meaning.proofs.Promises.{broken_exactly, doubled_exactly, states_known}
use Rattle.meaning.proofs.Comes.{comes_exactly, come_exactly, least_small, given_later}
use Rattle.meaning.proofs.Together.{state_count}
use Rattle.survey_reading.specs.Permitted.{Finished}
use Rattle.survey_reading.specs.Records.{ItemAt, OfItems, Numbered}
use Rattle.survey_reading.specs.declared.Summary.{Summary}
use Rattle.survey_reading.proofs.Told.{dones_pieces}

-- ---- what a value's words tell

-- a value with a state has nothing else
without : (v : Value) (s : ℕ) → 1 ≤ s → state_of v ≡ s → v ≡ Without s
without (Number z) s l e = absurd (omega arith)
without (Truth t) s l e = absurd (omega arith)
without (Range a b) s l e = absurd (omega arith)
without Truths s l e = absurd (omega arith)
without (Without t) s l e = ap Without e

no_number : (v : Value) → (state_of v ≡ 0 → ⊥) → (value_kind v ≡ 0) × (low_of v ≡ 0) × (high_of v ≡ 0)
no_number (Number z) h = absurd (h refl)
no_number (Truth t) h = absurd (h refl)
no_number (Range a b) h = absurd (h refl)
no_number Truths h = absurd (h refl)
no_number (Without s) h = (refl, refl, refl)

-- ---- the piece of a number among those done

done_at_lem : (all : List Piece) (above : List Done) (ps : List Piece) (j : ℕ) → j < length ps → done_at (dones_from all above ps) j ≡ done_of all (above ++ dones_from all above (take j ps)) (piece_at ps j)
unfolding dones_from
done_at_lem all above [] j h = absurd (omega arith)
done_at_lem all above (p ∷ ps) zero h = ap (λ (l : List Done). done_of all l p) (sym (append-nil above))
done_at_lem all above (p ∷ ps) (suc j) h =
    let d = done_of all above p in
    done_at_lem all (above ++ d ∷ []) ps j (omega arith)
    ∙ ap (λ (l : List Done). done_of all l (piece_at ps j)) (append_assoc above (d ∷ []) (dones_from all (above ++ d ∷ []) (take j ps)))

fold_at : (ds : List Done) → AllFold ds → (j : ℕ) → j < length ds → is_item (class_of (done_at ds j).piece) ≡ true → state_of (done_at ds j).value ≡ 0
fold_at [] a j h i = absurd (omega arith)
fold_at (d ∷ ds) a zero h i = a.0 i
fold_at (d ∷ ds) a (suc j) h i = fold_at ds a.1 j (omega arith) i

folds : (ds : List Done) → ((j : ℕ) → j < length ds → is_item (class_of (done_at ds j).piece) ≡ true → state_of (done_at ds j).value ≡ 0) → AllFold ds
folds [] f = tt
folds (d ∷ ds) f = (f 0 (omega arith), folds ds (λ j h i. f (suc j) (omega arith) i))

-- ---- what a piece comes to, by its state

module _ (all : List Piece) (above : List Done) (p : Piece) where
  abbrev v : Value
  v = value_of all above p

  comes : Comes all above p v
  comes = (comes_exactly all above p v).1 refl

  is : (u : Value) → Comes all above p u → u ≡ v
  is u c = (comes_exactly all above p u).0 c

  least_to : (s : ℕ) (u : Value) → 1 ≤ s → s ≤ states.kind → state_of u ≡ s → Comes all above p u → Least (Met all above p) s
  least_to s u a b e (stands l) = subst (Least (Met all above p)) e l
  least_to s u a b e (gives n f g) =
      let l = given_later all above p n f (subst (Gives (use_of all above) _) (without u s a e) g) in
      absurd (omega arith)

  pub by_least : (s : ℕ) → 1 ≤ s → s ≤ states.kind → (state_of v ≡ s) ↔ Least (Met all above p) s
  by_least s a b = ((λ e. least_to s v a b e comes), λ l. ap state_of (sym (is (Without s) (stands l))))

  pub by_broken : (state_of v ≡ states.broken) ↔ (FitsAForm p → ⊥)
  by_broken = ((λ e. (broken_exactly all above p).0 (without v 1 (omega arith) e)), λ n. ap state_of ((broken_exactly all above p).1 n))

  pub by_doubled : (state_of v ≡ states.doubled) ↔ (FitsAForm p × (own_doubled all p ≡ true))
  by_doubled = ((λ e. (doubled_exactly all above p).0 (without v 2 (omega arith) e)), λ n. ap state_of ((doubled_exactly all above p).1 n))

  abbrev Ends : ℕ → Type 0
  Ends s = NoneMet (Met all above p) × ((i : ItemForm) × (HasForm p i × Gives (use_of all above) i (Without s)))

  later_to : (s : ℕ) (u : Value) → states.divisor ≤ s → state_of u ≡ s → Comes all above p u → Ends s
  later_to s u a e (stands l) = let h = least_small all above p l in absurd (omega arith)
  later_to s u a e (gives {i = i} n f g) = (n, (i, (f, subst (Gives (use_of all above) i) (without u s (omega arith) e) g)))

  pub by_later : (s : ℕ) → states.divisor ≤ s → (state_of v ≡ s) ↔ Ends s
  by_later s a = ((λ e. later_to s v a e comes), λ h. ap state_of (sym (is (Without s) (gives h.0 h.1.1.0 h.1.1.1))))

  pub by_known : state_of v ≤ states.range
  by_known = go (state_of v) refl
    where
      go : (s : ℕ) → state_of v ≡ s → s ≤ states.range
      go zero e = omega arith
      go (suc s) e = (states_known all above p (suc s) (without v (suc s) (omega arith) e)).1

  -- a value with its number
  pub record Folds : Type 0 where
    pub form : ItemForm
    pub value : Value
    pub fits : HasForm p form
    pub none_met : NoneMet (Met all above p)
    pub given : Gives (use_of all above) form value
    pub folded : state_of value ≡ 0
    pub same : value ≡ v

  folds_to : (u : Value) → state_of u ≡ 0 → u ≡ v → Comes all above p u → Folds
  folds_to u e q (stands {s = s} l) = let h = (states_known all above p s (sym q)).0 in absurd (omega arith)
  folds_to u e q (gives {i = i} n f g) = record { form = i; value = u; fits = f; none_met = n; given = g; folded = e; same = q }

  pub by_number : state_of v ≡ 0 → Folds
  by_number e = folds_to v e refl comes

  pub number_is : (i : ItemForm) (u : Value) → NoneMet (Met all above p) → HasForm p i → Gives (use_of all above) i u → u ≡ v
  number_is i u n f g = is u (gives n f g)

-- ---- a survey that is done

module _ (text : List ℕ) (e i : ℕ) (y : Summary) (elements items : List ℕ) (f : Finished text e i y elements items) where
  abbrev ps : List Piece
  ps = pieces_of text

  abbrev ds : List Done
  ds = f.dones

  abbrev rest : ℕ
  rest = i - 8 * length (pieces_of text)

  dones_are : ds ≡ dones_from ps [] ps
  dones_are = (come_exactly ps [] ps ds).0 f.come

  size : length ds ≡ length ps
  size = ap length dones_are ∙ sym (pieces_length (dones_from ps [] ps)) ∙ ap length (dones_pieces ps [] ps)

  piece_is : (j : ℕ) → (done_at ds j).piece ≡ piece_at ps j
  piece_is j = ap (λ (l : List Done). (done_at l j).piece) dones_are ∙ sym (pieces_at (dones_from ps [] ps) j) ∙ ap (λ (l : List Piece). piece_at l j) (dones_pieces ps [] ps)

  pub class_word : (j : ℕ) → j < length ps → word_at items j 0 ≡ class_of (piece_at ps j)
  class_word j h = ap (λ (t : List ℕ). word_at t j 0) f.items_are ∙ class_at_lem ds rest j (omega (arith, size)) ∙ ap class_of (piece_is j)

  -- the last four words of an item's record
  item_word : (j : ℕ) → j < length ps → is_item (class_of (piece_at ps j)) ≡ true → (k : ℕ) → k < 4 → word_at items j (4 + k) ≡ get_or (value_words (done_at ds j).value) k 0
  item_word j h t k l =
      ap (λ (u : List ℕ). word_at u j (4 + k)) f.items_are ∙ value_word ds rest j (omega (arith, size)) k l
      ∙ ap (λ (b : Bool). get_or (item_value_words b (done_at ds j).value) k 0) (ap (λ (p : Piece). is_item (class_of p)) (piece_is j) ∙ t)

  module _ (j : ℕ) (above : List Done) (a : ItemAt text j above) where
    abbrev p : Piece
    p = piece_at ps j

    value_is : (done_at ds j).value ≡ value_of ps above p
    value_is =
        ap (λ (l : List Done). (done_at l j).value) dones_are ∙ ap (λ (d : Done). d.value) (done_at_lem ps [] ps j a.there)
        ∙ ap (λ (l : List Done). value_of ps l p) (sym ((come_exactly ps [] (take j ps) above).0 a.come))

    word_is : (k : ℕ) → k < 4 → word_at items j (4 + k) ≡ get_or (value_words (value_of ps above p)) k 0
    word_is k l = item_word j a.there a.item k l ∙ ap (λ (v : Value). get_or (value_words v) k 0) value_is

    state_word_lem : word_at items j column.state ≡ state_of (value_of ps above p)
    state_word_lem = word_is 0 (omega arith)

    kind_word_lem : word_at items j column.kind ≡ value_kind (value_of ps above p)
    kind_word_lem = word_is 1 (omega arith)

    low_word : word_at items j column.low ≡ low_of (value_of ps above p)
    low_word = word_is 2 (omega arith)

    high_word : word_at items j column.high ≡ high_of (value_of ps above p)
    high_word = word_is 3 (omega arith)

  whole_to : AllFold ds → (j : ℕ) → j < length ps → is_item (class_of (piece_at ps j)) ≡ true → word_at items j column.state ≡ 0
  whole_to a j h t = item_word j h t 0 (omega arith) ∙ fold_at ds a j (omega (arith, size)) (ap (λ (p : Piece). is_item (class_of p)) (piece_is j) ∙ t)

  whole_from : ((j : ℕ) → j < length ps → is_item (class_of (piece_at ps j)) ≡ true → word_at items j column.state ≡ 0) → AllFold ds
  whole_from g =
      folds ds
      (λ j h t.
      let l : j < length ps = omega (arith, size) in
      let u = sym (ap (λ (p : Piece). is_item (class_of p)) (piece_is j)) ∙ t in
      sym (item_word j l u 0 (omega arith)) ∙ g j l u)

-- ---- what holds of the words that hold what a piece comes to, and of a survey that is done, holds of every item and of every survey

-- the words of a record from its state on hold a value
pub record Held (v : Value) (word : ℕ → ℕ) : Type 0 where
  pub state_is : word column.state ≡ state_of v
  pub kind_is : word column.kind ≡ value_kind v
  pub low_is : word column.low ≡ low_of v
  pub high_is : word column.high ≡ high_of v

pub of_items : (P : List Piece → List Done → Piece → (ℕ → ℕ) → Type 0)
    → ((all : List Piece) (above : List Done) (p : Piece) (word : ℕ → ℕ) → Held (value_of all above p) word → P all above p word) → OfItems P
of_items P h text e i y elements items f j above a =
    h (pieces_of text) above (piece_at (pieces_of text) j) (word_at items j)
    (record {
      state_is = state_word_lem text e i y elements items f j above a;
      kind_is = kind_word_lem text e i y elements items f j above a;
      low_is = low_word text e i y elements items f j above a;
      high_is = high_word text e i y elements items f j above a;
    })

module _ (all : List Piece) (above : List Done) (p : Piece) (word : ℕ → ℕ) (h : Held (value_of all above p) word) where
  -- a state that the word has is the one that the piece comes to
  pub state_held : {P : Type 0} (s : ℕ) → (state_of (value_of all above p) ≡ s) ↔ P → (word column.state ≡ s) ↔ P
  state_held s q = ((λ e. q.0 (sym h.state_is ∙ e)), λ x. h.state_is ∙ q.1 x)

  numbered : word column.state ≡ 0 → Numbered all above p word
  numbered z =
      let n = by_number all above p (sym h.state_is ∙ z) in
      record {
        form = n.form;
        value = n.value;
        fits = n.fits;
        none_met = n.none_met;
        given = n.given;
        folded = n.folded;
        kind_is = h.kind_is ∙ ap value_kind (sym n.same);
        low_is = h.low_is ∙ ap low_of (sym n.same);
        high_is = h.high_is ∙ ap high_of (sym n.same);
      }

  pub number_held : (word column.state ≡ 0) ↔ Numbered all above p word
  number_held = (numbered, λ n. h.state_is ∙ ap state_of (sym (number_is all above p n.form n.value n.none_met n.fits n.given)) ∙ n.folded)

  pub none_held : (word column.state ≡ 0 → ⊥) → (word column.kind ≡ 0) × (word column.low ≡ 0) × (word column.high ≡ 0)
  none_held g = let n = no_number (value_of all above p) (λ z. g (h.state_is ∙ z)) in (h.kind_is ∙ n.0, h.low_is ∙ n.1, h.high_is ∙ n.2)

module _ (text : List ℕ) (e i : ℕ) (y : Summary) (elements items : List ℕ) (f : Finished text e i y elements items) where
  pub tallied : (k : ℕ) → k ≤ states.range → get_or y.tally.counts k 0 ≡ in_state k items 0 y.pieces
  tallied k l =
      f.counts k l
      ∙ sym (state_count k l f.dones (replicate (i - 8 * length (pieces_of text)) 0))
      ∙ ap₂ (λ (t : List ℕ) (n : ℕ). in_state k t 0 n) (sym f.items_are) (size text e i y elements items f ∙ sym f.pieces)

  pub whole_held : (y.whole ≡ true)
      ↔ (GoodFrame (pieces_of text) × ((j : ℕ) → j < length (pieces_of text) → is_item (class_of (piece_at (pieces_of text) j)) ≡ true → word_at items j column.state ≡ 0))
  whole_held = (
    (λ w. let x = f.whole.0 w in (x.0, whole_to text e i y elements items f x.1)),
    λ x. f.whole.1 (x.0, whole_from text e i y elements items f x.1),
  )
