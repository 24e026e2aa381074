-- What the code's definitions make of a piece is what it comes to by the forms, the states and the values, and nothing else is. Assumes nothing.
use Prim.Native.Nat.{ℕ, ◌≤◌}
use mathlib.Core.Path.{◌≡◌, refl, sym, ap, ap₂, subst, ◌∙◌}
use mathlib.Core.Logic.{◌⊎◌, inl, inr}
use mathlib.Core.Bool.{Bool, true, false}
use mathlib.Core.List.{List, [], ◌∷◌, ◌++◌}
use native.Mathlib.Omega.{arith}
use Rattle.laws.proofs.Laws.{clash}
use Rattle.forms.specs.Tree.{Row}
use Rattle.pieces.specs.Kinds.{any_down}
use Rattle.tree.specs.code.PieceRows.{unlike, rows_of_piece}
use Rattle.tree.proofs.ItemRows.{constant_read, subtype_read}
use Rattle.folding.specs.declared.Sort.{Sort}
use Rattle.folding.specs.declared.Sort.TheVariants as S
use Rattle.marks.specs.code.Marks.{constant_of}
use Rattle.values.specs.ValueWords.{state_of}
use Rattle.values.specs.declared.Value.{Value}
use Rattle.values.specs.declared.Value.TheVariants.{Without}
use Rattle.integers.specs.declared.Kind.TheVariants as K
use Rattle.meaning.specs.Elements.{Element, Piece, at}
use Rattle.meaning.specs.Pieces.{kinds_in_piece, class_of}
use Rattle.meaning.specs.Names.{own_doubled, Done, use_of}
use Rattle.meaning.specs.ItemForms.{ItemForm, ranged, HasForm, is_constant, is_subtype, is_ranged}
use Rattle.meaning.specs.States.{ItemMeets, Met, broken, doubled, by_form, Least, NoneMet}
use Rattle.meaning.specs.Values.{Gives}
use Rattle.meaning.specs.Meaning.{Comes, stands, gives, Come, none, more}
use Rattle.meaning.specs.code.PieceValues.{valued, bounded, formed, unless_doubled, value_of, done_of, dones_from}
use Rattle.meaning.specs.code.Promises.{ComesExactly, ComeExactly, ClassByForm}
use Rattle.meaning.proofs.States.{Late, use_late, marked_late}
use Rattle.meaning.proofs.Least.{Exact}
use Rattle.meaning.proofs.Later.{Later, Ends}
use Rattle.meaning.proofs.Readings.{constant_reading, subtype_reading}
use Rattle.meaning.proofs.Begins.{constant_tree_begins, subtype_tree_begins}
use Rattle.meaning.proofs.Directions.{direction}
use Rattle.meaning.proofs.Made.{Made, constant_made, subtype_made, ranged_made}
use Rattle.meaning.proofs.Promises.{first_kind, HasRows, Ways, ways, broken_value, doubled_value}

pub class_by_form : ClassByForm
class_by_form p i (is_constant t x) = (constant_tree_begins p _ t).classed
class_by_form p i (is_subtype t) = (subtype_tree_begins p _ t).classed
class_by_form p i (is_ranged t g x y) = (subtype_tree_begins p _ t).classed

module _ (all : List Piece) (above : List Done) (p : Piece) where
  abbrev used : Element → Value
  used = use_of all above

  -- what the code makes of the piece's rows, if its name is not doubled
  abbrev made : Value
  made = formed p used (rows_of_piece (kinds_in_piece p))

  -- ---- an item of the piece

  chosen_constant : (item mark : Row) (rs : List Row) → class_of p ≡ 3 → rows_of_piece (kinds_in_piece p) ≡ item ∷ (mark ∷ rs) → constant_of (used (at p mark.first)) (valued p used rs) ≡ made
  chosen_constant item mark rs c e = rw (e, c)

  chosen_subtype : (item mark : Row) (rs : List Row) → class_of p ≡ 4 → rows_of_piece (kinds_in_piece p) ≡ item ∷ (mark ∷ rs) → bounded p used (used (at p mark.first)) rs ≡ made
  chosen_subtype item mark rs c e = rw (e, c)

  made_is : (i : ItemForm) → HasForm p i → Made used i made
  made_is i (is_constant {item = item} {mark = mark} {rs = rs} {x = x} t is) =
      let b = constant_tree_begins p _ t in
      let r = (constant_reading p _).0 t in
      let q = constant_read (kinds_in_piece p) (first_kind p ∙ b.first) unlike r.0 r.1.0 ∙ r.1.1 in
      subst (Made used i) (chosen_constant item mark rs b.classed q) (constant_made used p (use_late all above) (at p mark.first) x rs is)
  made_is i (is_subtype {item = item} {mark = mark} t) =
      let b = subtype_tree_begins p _ t in
      let r = (subtype_reading p _).0 t in
      let q = subtype_read (kinds_in_piece p) (first_kind p ∙ b.first) unlike r.0 r.1.0 ∙ r.1.1 in
      subst (Made used i) (chosen_subtype item mark [] b.classed q) (subtype_made used (at p mark.first) (use_late all above (at p mark.first)))
  made_is i (is_ranged {item = item} {mark = mark} {range = range} {rs = rs} {x = x} {y = y} {down = down} t g is js) =
      let b = subtype_tree_begins p _ t in
      let r = (subtype_reading p _).0 t in
      let q = subtype_read (kinds_in_piece p) (first_kind p ∙ b.first) unlike r.0 r.1.0 ∙ r.1.1 in
      subst (λ (d : Bool). Made used (ranged (at p mark.first) x d y) made) (sym (direction p _ t.0 g))
      (subst (Made used (ranged (at p mark.first) x (any_down (kinds_in_piece p)) y)) (chosen_subtype item mark (range ∷ rs) b.classed q) (ranged_made used p (use_late all above) (at p mark.first) x y (any_down (kinds_in_piece p)) rs is js))

  made_late : HasRows p → Late made
  made_late (item, (mark, (m, e))) = subst (λ (rs : List Row). Late (formed p used rs)) (sym e) (marked_late all above p (at p mark.first) m)

  plain_value : HasRows p → own_doubled all p ≡ false → value_of all above p ≡ made
  unfolding value_of
  plain_value (item, (mark, (m, e))) d =
      ap₂ (λ (b : Bool) (rs : List Row). unless_doubled b rs (formed p used rs)) d e ∙ ap (formed p used) (sym e)

  -- one state
  same_state : (v : Value) (s t : ℕ) → v ≡ Without s → v ≡ Without t → s ≡ t
  same_state v s t e f = ap state_of (sym e ∙ f)

  -- a state that the item meets, from the one that the code gives
  at_least : (i : ItemForm) (o : Made used i made) → Late made → (s : ℕ) → ItemMeets used i s → (t : ℕ) × (Least (ItemMeets used i) t × ((made ≡ Without t) × ((3 ≤ t) × (t ≤ s))))
  at_least i o l s h = go o.sort o.exact o.ends
    where
      go : (r : Sort) → Exact r o.kind (ItemMeets used i) → Ends r made → (t : ℕ) × (Least (ItemMeets used i) t × ((made ≡ Without t) × ((3 ≤ t) × (t ≤ s))))
      go (S.Of K.Integer) e f = absurd (e.1 s h)
      go (S.Of K.Truth) e f = absurd (e.1 s h)
      go (S.Wrong t) e f = let b = subst Late f l in (t, (e.0, (f, (b.0, e.0.1 s h))))

  -- the least of what is met, or none
  least_or_none : (i : ItemForm) (o : Made used i made) → ((t : ℕ) × (Least (ItemMeets used i) t × ((made ≡ Without t) × (t ≤ 6)))) ⊎ (NoneMet (ItemMeets used i) × Later made)
  least_or_none i o = go o.sort o.exact o.ends
    where
      go : (r : Sort) → Exact r o.kind (ItemMeets used i) → Ends r made → ((t : ℕ) × (Least (ItemMeets used i) t × ((made ≡ Without t) × (t ≤ 6)))) ⊎ (NoneMet (ItemMeets used i) × Later made)
      go (S.Of K.Integer) e f = inr (e.1, f)
      go (S.Of K.Truth) e f = inr (e.1, f)
      go (S.Wrong t) e f = inl (t, (e.0, (f, e.1)))

  -- ---- the states apart: what is met is one of 1 to 6, and what an item ends in else is none of them

  met_small : (i : ItemForm) → HasForm p i → (s : ℕ) → ItemMeets used i s → (t : ℕ) × (ItemMeets used i t × (t ≤ 6))
  met_small i f s m = go (least_or_none i (made_is i f))
    where
      go : ((t : ℕ) × (Least (ItemMeets used i) t × ((made ≡ Without t) × (t ≤ 6)))) ⊎ (NoneMet (ItemMeets used i) × Later made) → (t : ℕ) × (ItemMeets used i t × (t ≤ 6))
      go (inl (t, (l, (e, k)))) = (t, (l.0, k))
      go (inr (n, l)) = absurd (n s m)

  pub least_small : {s : ℕ} → Least (Met all above p) s → s ≤ 6
  least_small (m, l) = go m l
    where
      go : {s : ℕ} → Met all above p s → ((t : ℕ) → Met all above p t → s ≤ t) → s ≤ 6
      go (broken n) l = omega arith
      go (doubled d) l = omega arith
      go (by_form {i = i} {s = s} f m) l = let t = met_small i f s m in let a = l t.0 (by_form f t.1.0) in let b = t.1.1 in omega arith

  pub given_later : {i : ItemForm} {v : Value} → NoneMet (Met all above p) → HasForm p i → Gives used i v → Later v
  given_later {i = i} {v = v} n f g = subst Later ((made_is i f).given (λ t a. n t (by_form f a)) v g) (go (least_or_none i (made_is i f)))
    where
      go : ((t : ℕ) × (Least (ItemMeets used i) t × ((made ≡ Without t) × (t ≤ 6)))) ⊎ (NoneMet (ItemMeets used i) × Later made) → Later made
      go (inl (t, (l, e))) = absurd (n t (by_form f l.0))
      go (inr (m, l)) = l

  -- ---- what is said is what the code makes

  sound : Ways p → (v : Value) → Comes all above p v → v ≡ value_of all above p
  sound (inl h) v (stands {s = s} (m, l)) = by m l
    where
      by : {s : ℕ} → Met all above p s → ((t : ℕ) → Met all above p t → s ≤ t) → Without s ≡ value_of all above p
      by (broken n) l = sym (broken_value all above p h.0)
      by (doubled d) l = let z = l 1 (broken (λ i f. h.1 (i, f))) in absurd (omega arith)
      by (by_form {i = i} f m) l = absurd (h.1 (i, f))
  sound (inl h) v (gives {i = i} n f g) = absurd (h.1 (i, f))
  sound (inr (f, h)) v (stands {s = s} (m, l)) = by m l
    where
      by : {s : ℕ} → Met all above p s → ((t : ℕ) → Met all above p t → s ≤ t) → Without s ≡ value_of all above p
      by (broken n) l = absurd (n f.0 f.1)
      by (doubled d) l = sym (doubled_value all above p h d)
      by (by_form {i = i} {s = s} g m) l = go (own_doubled all p) refl
        where
          a : (t : ℕ) × (Least (ItemMeets used i) t × ((made ≡ Without t) × ((3 ≤ t) × (t ≤ s))))
          a = at_least i (made_is i g) (made_late h) s m

          go : (b : Bool) → own_doubled all p ≡ b → Without s ≡ value_of all above p
          go true d = let z = l 2 (doubled d) in let y = a.1.1.1.0 in let x = a.1.1.1.1 in absurd (omega arith)
          go false d =
              let z = l a.0 (by_form g a.1.0.0) in
              let y = a.1.1.1.1 in
              let x : s ≡ a.0 = omega arith in
              sym (plain_value h d ∙ a.1.1.0 ∙ ap Without (sym x))
  sound (inr (f, h)) v (gives {i = i} n g k) = go (own_doubled all p) refl
    where
      go : (b : Bool) → own_doubled all p ≡ b → v ≡ value_of all above p
      go true d = absurd (n 2 (doubled d))
      go false d = sym (plain_value h d ∙ (made_is i g).given (λ t a. n t (by_form g a)) v k)

  -- ---- and it is said

  complete : Ways p → Comes all above p (value_of all above p)
  complete (inl h) = subst (Comes all above p) (sym (broken_value all above p h.0)) (stands (broken (λ i f. h.1 (i, f)), least))
    where
      least : (t : ℕ) → Met all above p t → 1 ≤ t
      least t (broken n) = omega arith
      least t (doubled d) = omega arith
      least t (by_form {i = i} f m) = absurd (h.1 (i, f))
  complete (inr (f, h)) = go (own_doubled all p) refl
    where
      two : (t : ℕ) → Met all above p t → 2 ≤ t
      two t (broken n) = absurd (n f.0 f.1)
      two t (doubled d) = omega arith
      two t (by_form {i = i} g m) = let a = at_least i (made_is i g) (made_late h) t m in let y = a.1.1.1.0 in let x = a.1.1.1.1 in omega arith

      go : (b : Bool) → own_doubled all p ≡ b → Comes all above p (value_of all above p)
      go true d = subst (Comes all above p) (sym (doubled_value all above p h d)) (stands (doubled d, two))
      go false d = subst (Comes all above p) (sym (plain_value h d)) (by (least_or_none f.0 (made_is f.0 f.1)))
        where
          clashing : own_doubled all p ≡ true → ⊥
          clashing e = let z : true ≡ false = sym e ∙ d in let y : ◌≡◌ {A = ℕ} 0 1 = cc in clash y

          by : ((t : ℕ) × (Least (ItemMeets used f.0) t × ((made ≡ Without t) × (t ≤ 6)))) ⊎ (NoneMet (ItemMeets used f.0) × Later made) → Comes all above p made
          by (inl (t, (l, (e, k)))) = subst (Comes all above p) (sym e) (stands (by_form f.1 l.0, least))
            where
              least : (u : ℕ) → Met all above p u → t ≤ u
              least u (broken n) = absurd (n f.0 f.1)
              least u (doubled q) = absurd (clashing q)
              least u (by_form {i = i} g m) = let a = at_least i (made_is i g) (made_late h) u m in let z = same_state made t a.0 e a.1.1.0 in let x = a.1.1.1.1 in omega arith
          by (inr (n, l)) = gives nothing f.1 ((made_is f.0 f.1).gives n)
            where
              nothing : (u : ℕ) → Met all above p u → ⊥
              nothing u (broken q) = q f.0 f.1
              nothing u (doubled q) = clashing q
              nothing u (by_form {i = i} g m) = late_not (least_or_none i (made_is i g))
                where
                  late_not : ((t : ℕ) × (Least (ItemMeets used i) t × ((made ≡ Without t) × (t ≤ 6)))) ⊎ (NoneMet (ItemMeets used i) × Later made) → ⊥
                  late_not (inl (t, (x, (e, k)))) = let z = subst Later e l in omega arith
                  late_not (inr (x, y)) = x u m

pub comes_exactly : ComesExactly
comes_exactly all above p v = (sound all above p (ways p) v, λ e. subst (Comes all above p) (sym e) (complete all above p (ways p)))

-- ---- the pieces of a text

come_sound : (all : List Piece) {above : List Done} {ps : List Piece} {ds : List Done} → Come all above ps ds → ds ≡ dones_from all above ps
unfolding dones_from
come_sound all none = refl
come_sound all (more {above = above} {ds = ds} {p = p} {ps = ps} {v = v} c d) =
    let e = sound all above p (ways p) v c in
    ap (λ (l : List Done). record { piece = p; value = v } ∷ l) (come_sound all d)
    ∙ ap (λ (u : Value). record { piece = p; value = u } ∷ dones_from all (above ++ (record { piece = p; value = u } ∷ [])) ps) e

come_complete : (all : List Piece) (above : List Done) (ps : List Piece) → Come all above ps (dones_from all above ps)
unfolding dones_from
come_complete all above [] = none
come_complete all above (p ∷ ps) = more (complete all above p (ways p)) (come_complete all (above ++ (done_of all above p ∷ [])) ps)

pub come_exactly : ComeExactly
come_exactly all above ps ds = (come_sound all, λ e. subst (Come all above ps) (sym e) (come_complete all above ps))
