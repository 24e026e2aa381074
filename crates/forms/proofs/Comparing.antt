-- What the test to a rule says: where a rule is taken, what is left to read still compares a name exactly where it closes. Assumes nothing.
use Prim.Native.Nat.{ℕ, zero, suc, ◌-◌, ◌<◌}
use mathlib.Core.Path.{◌≡◌, refl, sym, ◌∙◌, ap, subst}
use mathlib.Core.Logic.{⊎_elim}
use mathlib.Core.Bool.{Bool, true, false, ◌&&◌, ◌||◌, cond}
use mathlib.Core.List.{List, [], ◌∷◌, ◌++◌}
use native.Mathlib.Omega.{arith}
use lib.Dec.{T}
use lib.ListN.{get_or}
use Rattle.grammars.specs.code.Grammar.{Sym, tok, nt, act}
use Rattle.grammars.proofs.Theory.{mem, keep, and_left, and_right, and_both, mem_append, mem_left, mem_right, mem_keep, keep_mem, one_of, is_one_lem}
use Rattle.grammars.proofs.Check.{every, every_at}
use Rattle.forms.specs.code.Rules.{forms, body}
use Rattle.forms.specs.Spellings.{spelled_among}
use Rattle.forms.specs.Closing.{unit_words, is_identifier, is_end, behind_unit, opens_one, behind_end}
use Rattle.forms.proofs.Walking.{Closed, nothing, named, Walk, innermost, around, is_nothing, label_of, names_after, ends_after, walked, closed_by}
use Rattle.forms.proofs.Hints as hints
use Rattle.forms.proofs.Telling.{Ends, clear, frame, any, Known, unknown, unnamed, just, labels, pushed, owns, Out, kept, labelling, lost, before, null, after, ends_in, ends_out, known_in, out_of, EndsIs, KnownIs, OutIs, Leaves, Good, same_bool, same_bool_lem, is_false, head_of, is_clear, is_frame, is_told, is_pushed, onward, through, stays, no_colon, opened, ended, fits_ends, fits_known, is_labels, fits_out, still_kept, sure, lower, asks, may, names_ok, rules_close}

-- what the parts of the test say
abbrev Asks : Bool → Closed → ℕ → Type 0
Asks true r g = r ≡ named g
Asks false r g = r ≡ nothing

free : (b : Bool) (r : Closed) (g : ℕ) → T (is_false b) → Asks b r g → r ≡ nothing
free true r g h k = absurd h
free false r g h k = k

asked_now : (b : Bool) (r : Closed) (g : ℕ) → T b → Asks b r g → r ≡ named g
asked_now true r g h k = k
asked_now false r g h k = absurd h

ends_fit : (w e : Ends) (c : Closed) (g : ℕ) → T (fits_ends w e) → EndsIs e c g → EndsIs w c g
ends_fit any e c g t h = tt
ends_fit clear clear c g t h = h
ends_fit clear frame c g t h = absurd t
ends_fit clear any c g t h = absurd t
ends_fit frame clear c g t h = absurd t
ends_fit frame frame c g t h = h
ends_fit frame any c g t h = absurd t

onward_is : (e : Ends) (c : Closed) (g g' : ℕ) → EndsIs e c g → EndsIs (onward e) c g'
onward_is clear c g g' h = h
onward_is frame c g g' h = tt
onward_is any c g g' h = tt

no_label : (x : Walk) (S : List ℕ) → T (mem x.last S) → T (no_colon S) → label_of x.last x.count ≡ 0
no_label x S m h =
    ap (λ (b : Bool). cond b (x.count - 1) 0) (same_bool_lem (spelled_among x.last (":" ∷ [])) false (every_at (λ p. is_false (spelled_among p (":" ∷ []))) S h x.last m))

known_fit : (S : List ℕ) (w i : Known) (x : Walk) (g : ℕ) → T (mem x.last S) → T (fits_known S w i) → KnownIs i x g → KnownIs w x g
known_fit S unknown i x g m t h = tt
known_fit S unnamed i x g m t h = absurd t
known_fit S just i x g m t h = absurd t
known_fit S pushed i x g m t h = absurd t
known_fit S owns i x g m t h = absurd t
known_fit S labels unknown x g m t h = absurd t
known_fit S labels unnamed x g m t h = h ∙ sym (no_label x S m t)
known_fit S labels just x g m t h = absurd t
known_fit S labels labels x g m t h = h
known_fit S labels pushed x g m t h = absurd t
known_fit S labels owns x g m t h = absurd t

known_through : (o : Out) (i : Known) (x x' : Walk) (g g' : ℕ) → OutIs o x' g g' → x'.names ≡ x.names → KnownIs i x g → KnownIs (through o i) x' g'
known_through labelling i x x' g g' o n h = o
known_through lost i x x' g g' o n h = tt
known_through kept unknown x x' g g' o n h = tt
known_through kept unnamed x x' g g' o n h = o ∙ h
known_through kept just x x' g g' o n h = tt
known_through kept labels x x' g g' o n h = tt
known_through kept pushed x x' g g' o n h = tt
known_through kept owns x x' g g' o n h = o ∙ h ∙ ap innermost (sym n)

labels_is : (i : Known) (x : Walk) (g : ℕ) → T (is_labels i) → KnownIs i x g → g ≡ label_of x.last x.count
labels_is unknown x g t h = absurd t
labels_is unnamed x g t h = absurd t
labels_is just x g t h = absurd t
labels_is labels x g t h = h
labels_is pushed x g t h = absurd t
labels_is owns x g t h = absurd t

name_known : (i : Known) (x : Walk) (g : ℕ) → KnownIs i x g → KnownIs (cond (is_pushed i) owns just) x x.count
name_known unknown x g h = refl
name_known unnamed x g h = refl
name_known just x g h = refl
name_known labels x g h = refl
name_known pushed x g h = sym h
name_known owns x g h = refl

-- one element more, of kind a, one of S before it
module _ (x : Walk) (a g : ℕ) (S : List ℕ) (e : Ends) (i : Known) (at : T (mem x.last S)) (end : EndsIs e x.ends g) (known : KnownIs i x g) (sureness : T (sure a S e)) where
  abbrev Unit-test : Bool
  Unit-test = is_frame e || every (λ p. same_bool (behind_unit p a) (behind_unit (head_of S) a)) S

  abbrev One-test : Bool
  One-test = every (λ p. same_bool (opens_one p a) (opens_one (head_of S) a)) S

  abbrev End-test : Bool
  End-test = every (λ p. same_bool (behind_end p a) (behind_end (head_of S) a)) S

  abbrev Told-test : Bool
  Told-test = is_false (is_identifier a) || is_told e

  told : T Told-test
  told = and_right End-test Told-test (and_right One-test (End-test && Told-test) (and_right Unit-test (One-test && (End-test && Told-test)) sureness))

  one_is : opens_one x.last a ≡ opens_one (head_of S) a
  one_is =
      same_bool_lem (opens_one x.last a) (opens_one (head_of S) a)
      (every_at (λ p. same_bool (opens_one p a) (opens_one (head_of S) a)) S (and_left One-test (End-test && Told-test) (and_right Unit-test (One-test && (End-test && Told-test)) sureness)) x.last at)

  end_is : behind_end x.last a ≡ behind_end (head_of S) a
  end_is =
      same_bool_lem (behind_end x.last a) (behind_end (head_of S) a)
      (every_at (λ p. same_bool (behind_end p a) (behind_end (head_of S) a)) S
      (and_left End-test Told-test (and_right One-test (End-test && Told-test) (and_right Unit-test (One-test && (End-test && Told-test)) sureness))) x.last at)

  unit_is : behind_unit x.last a && is_nothing x.ends ≡ behind_unit (head_of S) a && is_clear e
  unit_is = by e end told (and_left Unit-test (One-test && (End-test && Told-test)) sureness)
    where
      never : (b : Bool) → b && false ≡ false
      never true = refl
      never false = refl

      neither : (c u v w : Bool) → T (is_false c || false) → (c && u) && w ≡ (c && v) && false
      neither true u v w h = absurd h
      neither false u v w h = refl

      by : (e : Ends) → EndsIs e x.ends g → T (is_false (is_identifier a) || is_told e) → T (is_frame e || every (λ p. same_bool (behind_unit p a) (behind_unit (head_of S) a)) S)
          → behind_unit x.last a && is_nothing x.ends ≡ behind_unit (head_of S) a && is_clear e
      by clear h t u =
          let z : behind_unit x.last a ≡ behind_unit (head_of S) a =
          same_bool_lem (behind_unit x.last a) (behind_unit (head_of S) a) (every_at (λ p. same_bool (behind_unit p a) (behind_unit (head_of S) a)) S u x.last at) in
          ap (λ (c : Closed). behind_unit x.last a && is_nothing c) h ∙ ap (λ (b : Bool). b && true) z
      by frame h t u = ap (λ (c : Closed). behind_unit x.last a && is_nothing c) h ∙ never (behind_unit x.last a) ∙ sym (never (behind_unit (head_of S) a))
      by any h t u = neither (is_identifier a) (spelled_among x.last unit_words) (spelled_among (head_of S) unit_words) (is_nothing x.ends) t

  asked_next : Asks (asks a e) (closed_by x a) g
  asked_next = by (is_identifier a) e end told
    where
      by : (c : Bool) (e : Ends) → EndsIs e x.ends g → T (is_false c || is_told e) → Asks (c && is_frame e) (cond c x.ends nothing) g
      by false e h t = refl
      by true clear h t = h
      by true frame h t = h
      by true any h t = absurd t

  names_is : (E U O : Bool) → is_end a ≡ E → behind_unit x.last a && is_nothing x.ends ≡ U → opens_one x.last a ≡ O
      → names_after x a ≡ cond E (around x.names) (cond U (suc x.count ∷ x.names) (cond O (label_of x.last x.count ∷ x.names) x.names))
  names_is E U O p q r = cc

  end_next : is_end a ≡ true → EndsIs (ended i) (ends_after x a) g
  end_next h =
      subst (λ (c : Closed). EndsIs (ended i) c g) (sym (ap (λ (b : Bool). cond b (named (innermost x.names)) (cond (behind_end x.last a) x.ends nothing)) h)) (by i known)
    where
      by : (i : Known) → KnownIs i x g → EndsIs (ended i) (named (innermost x.names)) g
      by unknown h = tt
      by unnamed h = tt
      by just h = tt
      by labels h = tt
      by pushed h = tt
      by owns h = ap named (sym h)

  else_next : is_end a ≡ false → EndsIs (cond (behind_end (head_of S) a) e clear) (ends_after x a) g
  else_next h =
      subst (λ (c : Closed). EndsIs (cond (behind_end (head_of S) a) e clear) c g)
      (sym (ap (λ (b : Bool). cond b (named (innermost x.names)) (cond (behind_end x.last a) x.ends nothing)) h))
      (subst (λ (b : Bool). EndsIs (cond b e clear) (cond (behind_end x.last a) x.ends nothing) g) end_is (by (behind_end x.last a)))
    where
      by : (b : Bool) → EndsIs (cond b e clear) (cond b x.ends nothing) g
      by true = end
      by false = refl

  opened_next : names_after x a ≡ label_of x.last x.count ∷ x.names → KnownIs (opened S i) (walked x a) g
  opened_next h = by i known
    where
      open_none : (b : Bool) → no_colon S ≡ b → g ≡ 0 → KnownIs (cond b owns unknown) (walked x a) g
      open_none true q z = z ∙ sym (no_label x S at (subst T (sym q) tt)) ∙ ap innermost (sym h)
      open_none false q z = tt

      by : (i : Known) → KnownIs i x g → KnownIs (opened S i) (walked x a) g
      by unknown z = tt
      by unnamed z = open_none (no_colon S) refl z
      by just z = tt
      by labels z = z ∙ ap innermost (sym h)
      by pushed z = tt
      by owns z = tt

  stays_next : names_after x a ≡ x.names → KnownIs (stays a i) (walked x a) g
  stays_next h = by i known
    where
      label_next : (b : Bool) → spelled_among a (":" ∷ []) ≡ b → g ≡ x.count → KnownIs (cond b labels unknown) (walked x a) g
      label_next true q z =
          let y : x.count ≡ suc x.count - 1 = omega arith in
          z ∙ y ∙ sym (ap (λ (c : Bool). cond c (suc x.count - 1) 0) q)
      label_next false q z = tt

      by : (i : Known) → KnownIs i x g → KnownIs (stays a i) (walked x a) g
      by unknown z = tt
      by unnamed z = z
      by just z = label_next (spelled_among a (":" ∷ [])) refl z
      by labels z = tt
      by pushed z = tt
      by owns z = z ∙ ap innermost (sym h)

module _ (n : ℕ) (x₀ : Walk) (g₀ : ℕ) (G₀ : List ℕ) (α : List Sym) (stood : T (mem x₀.last (before n))) (goes : (x : Walk) (g : ℕ) → Leaves n x₀ g₀ x g → Good x nothing g G₀ α) where
  abbrev Kept : Bool → ℕ → Type 0
  Kept true g = g ≡ g₀
  Kept false g = Unit {0}

  -- f frames were begun, and the one before them has its name still, if k
  abbrev Framed : ℕ → Bool → ℕ → List ℕ → Type 0
  Framed zero k g G = (G ≡ G₀) × Kept k g
  Framed (suc f) k g [] = ⊥
  Framed (suc f) k g (h ∷ G) = Framed f k h G

  -- d names were put in front
  abbrev Above : List ℕ → ℕ → Type 0
  Above ns zero = ns ≡ x₀.names
  Above [] (suc d) = ⊥
  Above (v ∷ ns) (suc d) = Above ns d

  record Told (k : Bool) (f d : ℕ) (b z : Bool) (S : List ℕ) (e : Ends) (i : Known) (x : Walk) (r : Closed) (g : ℕ) (G : List ℕ) : Type 0 where
    at : T (mem x.last (S ++ keep z (x₀.last ∷ [])))
    end : EndsIs e x.ends g
    known : KnownIs i x g
    asked : Asks b r g
    above : Above x.names d
    framed : Framed f k g G

  wide : (z : Bool) (S : List ℕ) (t : ℕ) → T (mem t (S ++ keep z (x₀.last ∷ []))) → T (mem t (may n z S))
  wide z S t m =
      ⊎_elim (λ l. mem_left t S (keep z (before n)) l)
      (λ l.
      let r = mem_keep z t (x₀.last ∷ []) l in
      mem_right t S (keep z (before n)) (keep_mem z t (before n) r.0 (subst (λ (y : ℕ). T (mem y (before n))) (sym (one_of t x₀.last r.1)) stood)))
      (mem_append t S (keep z (x₀.last ∷ [])) m)

  -- past a name that began after an element of kind q
  past : (m : ℕ) (z : Bool) (S : List ℕ) (q t : ℕ) → T (mem q (S ++ keep z (x₀.last ∷ []))) → T (mem t (after m (q ∷ []))) → T (mem t (after m S ++ keep (z && null m) (x₀.last ∷ [])))
  past m z S q t h l =
      ⊎_elim (λ k. mem_left t (after m S) (keep (z && null m) (x₀.last ∷ [])) (mem_left t (get_or hints.lasts m []) (keep (null m) S) k))
      (λ k.
      let r = mem_keep (null m) t (q ∷ []) k in
      let y : q ≡ t = sym (one_of t q r.1) in
      ⊎_elim
      (λ u. mem_left t (after m S) (keep (z && null m) (x₀.last ∷ [])) (mem_right t (get_or hints.lasts m []) (keep (null m) S) (keep_mem (null m) t S r.0 (subst (λ (v : ℕ). T (mem v S)) y u))))
      (λ u.
      let v = mem_keep z q (x₀.last ∷ []) u in
      mem_right t (after m S) (keep (z && null m) (x₀.last ∷ []))
      (keep_mem (z && null m) t (x₀.last ∷ []) (and_both z (null m) v.0 r.0) (subst (λ (v : ℕ). T (mem v (x₀.last ∷ []))) y v.1)))
      (mem_append q S (keep z (x₀.last ∷ [])) h))
      (mem_append t (get_or hints.lasts m []) (keep (null m) (q ∷ [])) l)

  last_fits : (z : Bool) (S : List ℕ) (t : ℕ) → T (mem t (S ++ keep z (x₀.last ∷ []))) → T (every (λ t. mem t (get_or hints.lasts n [])) S) → T (is_false z || null n) → T (mem t (after n (x₀.last ∷ [])))
  last_fits z S t m h k =
      ⊎_elim (λ l. mem_left t (get_or hints.lasts n []) (keep (null n) (x₀.last ∷ [])) (every_at (λ t. mem t (get_or hints.lasts n [])) S h t l))
      (λ l.
      let r = mem_keep z t (x₀.last ∷ []) l in
      mem_right t (get_or hints.lasts n []) (keep (null n) (x₀.last ∷ [])) (keep_mem (null n) t (x₀.last ∷ []) (empty z r.0 k) r.1))
      (mem_append t S (keep z (x₀.last ∷ [])) m)
    where
      empty : (z : Bool) → T z → T (is_false z || null n) → T (null n)
      empty true a b = b
      empty false a b = absurd a

  above_around : (ns : List ℕ) (d : ℕ) → Above ns (suc d) → Above (around ns) d
  above_around [] d h = absurd h
  above_around (v ∷ ns) d h = h

  out_is : (o : Out) (k : Bool) (i : Known) (x : Walk) (g : ℕ) → T (fits_out o k i) → Kept k g → KnownIs i x g → OutIs o x g₀ g
  out_is kept true i x g t h y = h
  out_is kept false i x g t h y = absurd t
  out_is labelling k i x g t h y = labels_is i x g t y
  out_is lost k i x g t h y = tt

  framed_through : (f : ℕ) (k : Bool) (o : Out) (x : Walk) (g g' : ℕ) (G : List ℕ) → OutIs o x g g' → Framed f k g G → Framed f (still_kept f k o) g' G
  framed_through zero true kept x g g' G h y = (y.0, h ∙ y.1)
  framed_through zero true labelling x g g' G h y = (y.0, tt)
  framed_through zero true lost x g g' G h y = (y.0, tt)
  framed_through zero false o x g g' G h y = (y.0, tt)
  framed_through (suc f) k o x g g' [] h y = absurd y
  framed_through (suc f) k o x g g' (v ∷ G) h y = y

  -- one element more
  tok_case : (P : ℕ → Ends → Known → Bool) (Q : Type 0) (k : Bool) (f d : ℕ) (S : List ℕ) (e : Ends) (i : Known) (x : Walk) (g a : ℕ) (G : List ℕ)
      → T (mem x.last S) → EndsIs e x.ends g → KnownIs i x g → Above x.names d → Framed f k g G → T (sure a S e)
      → ((d' : ℕ) (e' : Ends) (i' : Known) → Told k f d' (asks a e) false (a ∷ []) e' i' (walked x a) (closed_by x a) g G → T (P d' e' i') → Q)
      → (E U O : Bool) → is_end a ≡ E → behind_unit x.last a && is_nothing x.ends ≡ U → opens_one x.last a ≡ O
      → T (cond E (lower d (λ d. P d (ended i) unknown)) (cond U (P (suc d) (cond (behind_end (head_of S) a) e clear) pushed) (cond O (P (suc d) (cond (behind_end (head_of S) a) e clear) (opened S i)) (P d (cond (behind_end (head_of S) a) e clear) (stays a i)))))
      → Q
  tok_case P Q k f zero S e i x g a G at en kn ab fr su ih true U O p q r t = absurd t
  tok_case P Q k f (suc d) S e i x g a G at en kn ab fr su ih true U O p q r t =
      let ns = names_is x a g S e i at en kn su true U O p q r in
      ih d (ended i) unknown (record {
        at = is_one_lem a;
        end = end_next x a g S e i at en kn su p;
        known = tt;
        asked = asked_next x a g S e i at en kn su;
        above = subst (λ (l : List ℕ). Above l d) (sym ns) (above_around x.names d ab);
        framed = fr;
      }) t
  tok_case P Q k f d S e i x g a G at en kn ab fr su ih false true O p q r t =
      let ns = names_is x a g S e i at en kn su false true O p q r in
      ih (suc d) (cond (behind_end (head_of S) a) e clear) pushed (record {
        at = is_one_lem a;
        end = else_next x a g S e i at en kn su p;
        known = ap innermost ns;
        asked = asked_next x a g S e i at en kn su;
        above = subst (λ (l : List ℕ). Above l (suc d)) (sym ns) ab;
        framed = fr;
      }) t
  tok_case P Q k f d S e i x g a G at en kn ab fr su ih false false true p q r t =
      let ns = names_is x a g S e i at en kn su false false true p q r in
      ih (suc d) (cond (behind_end (head_of S) a) e clear) (opened S i) (record {
        at = is_one_lem a;
        end = else_next x a g S e i at en kn su p;
        known = opened_next x a g S e i at en kn su ns;
        asked = asked_next x a g S e i at en kn su;
        above = subst (λ (l : List ℕ). Above l (suc d)) (sym ns) ab;
        framed = fr;
      }) t
  tok_case P Q k f d S e i x g a G at en kn ab fr su ih false false false p q r t =
      let ns = names_is x a g S e i at en kn su false false false p q r in
      ih d (cond (behind_end (head_of S) a) e clear) (stays a i) (record {
        at = is_one_lem a;
        end = else_next x a g S e i at en kn su p;
        known = stays_next x a g S e i at en kn su ns;
        asked = asked_next x a g S e i at en kn su;
        above = subst (λ (l : List ℕ). Above l d) (sym ns) ab;
        framed = fr;
      }) t

  -- nothing is to be compared
  unasked : (k : Bool) (f d : ℕ) (b z : Bool) (S : List ℕ) (e : Ends) (i : Known) (x : Walk) (r : Closed) (g : ℕ) (G : List ℕ) → Told k f d b z S e i x r g G → Told k f d false z S e i x nothing g G
  unasked k f d b z S e i x r g G h = record { at = h.at; end = h.end; known = h.known; asked = refl; above = h.above; framed = h.framed }

  -- what a rule's test says of the rule
  append : (β : List Sym) (k : Bool) (f d : ℕ) (b z : Bool) (S : List ℕ) (e : Ends) (i : Known) (x : Walk) (r : Closed) (g : ℕ) (G : List ℕ) → Told k f d b z S e i x r g G → T (names_ok n k f d b z S e i β)
      → Good x r g G (β ++ α)
  append [] k zero zero b z S e i x r g G h t =
      let A = every (λ t. mem t (get_or hints.lasts n [])) S in
      let B = is_false z || null n in
      let C = fits_ends (ends_out n) e in
      let D = fits_out (out_of n) k i in
      let u = and_right (is_false b) (A && (B && (C && D))) t in
      let v = and_right A (B && (C && D)) u in
      let y = and_right B (C && D) v in
      subst (λ (c : Closed). Good x c g G α) (sym (free b r g (and_left (is_false b) (A && (B && (C && D))) t) h.asked))
      (subst (λ (l : List ℕ). Good x nothing g l α) (sym h.framed.0)
      (goes x g (record {
        at = last_fits z S x.last h.at (and_left A (B && (C && D)) u) (and_left B (C && D) v);
        end = ends_fit (ends_out n) e x.ends g (and_left C D y) h.end;
        same = h.above;
        out = out_is (out_of n) k i x g (and_right C D y) h.framed.1 h.known;
      })))
  append [] k zero (suc d) b z S e i x r g G h t = absurd t
  append [] k (suc f) d b z S e i x r g G h t = absurd t
  append (tok a ∷ β) k f d b z S e i x r g G h t =
      let L = may n z S in
      let P : ℕ → Ends → Known → Bool = λ d e' i. names_ok n k f d (asks a e) false (a ∷ []) e' i β in
      let es = cond (behind_end (head_of L) a) e clear in
      let X = lower d (λ d. P d (ended i) unknown) in
      let Y = P (suc d) es pushed in
      let Z = P (suc d) es (opened L i) in
      let M = P d es (stays a i) in
      let C = cond (is_end a) X (cond (behind_unit (head_of L) a && is_clear e) Y (cond (opens_one (head_of L) a) Z M)) in
      let u = and_right (is_false b) (sure a L e && C) t in
      let su = and_left (sure a L e) C u in
      let at = wide z S x.last h.at in (
        free b r g (and_left (is_false b) (sure a L e && C) t) h.asked,
        tok_case P (Good (walked x a) (closed_by x a) g G (β ++ α)) k f d L e i x g a G at h.end h.known h.above h.framed su
            (λ d' e' i' h' t'. append β k f d' (asks a e) false (a ∷ []) e' i' (walked x a) (closed_by x a) g G h' t')
            (is_end a) (behind_unit x.last a && is_nothing x.ends) (opens_one x.last a) refl refl refl
            (subst (λ (o : Bool). T (cond (is_end a) X (cond (behind_unit x.last a && is_nothing x.ends) Y (cond o Z M)))) (sym (one_is x a g L e i at h.end h.known su))
            (subst (λ (o : Bool). T (cond (is_end a) X (cond o Y (cond (opens_one (head_of L) a) Z M)))) (sym (unit_is x a g L e i at h.end h.known su)) (and_right (sure a L e) C u))),
      )
  append (nt m ∷ β) k f d b z S e i x r g G h t =
      let A = every (λ t. mem t (before m)) (may n z S) in
      let B = fits_ends (ends_in m) e in
      let C = fits_known (may n z S) (known_in m) i in
      let D = names_ok n (still_kept f k (out_of m)) f d false (z && null m) (after m S) (ends_out m) (through (out_of m) i) β in
      let u = and_right (is_false b) (A && (B && (C && D))) t in
      let v = and_right A (B && (C && D)) u in
      let y = and_right B (C && D) v in
      let at = wide z S x.last h.at in (
        free b r g (and_left (is_false b) (A && (B && (C && D))) t) h.asked,
        record {
          at = every_at (λ t. mem t (before m)) (may n z S) (and_left A (B && (C && D)) u) x.last at;
          end = ends_fit (ends_in m) e x.ends g (and_left B (C && D) v) h.end;
          known = known_fit (may n z S) (known_in m) i x g at (and_left C D y) h.known;
        },
        λ x' g' l.
            append β (still_kept f k (out_of m)) f d false (z && null m) (after m S) (ends_out m) (through (out_of m) i) x' nothing g' G
            (record {
              at = past m z S x.last x'.last h.at l.at;
              end = l.end;
              known = known_through (out_of m) i x x' g g' l.out l.same h.known;
              asked = refl;
              above = subst (λ (ns : List ℕ). Above ns d) (sym l.same) h.above;
              framed = framed_through f k (out_of m) x' g g' G l.out h.framed;
            })
            (and_right C D y),
      )
  append (act zero ∷ β) k f d b z S e i x r g G h t =
      let A = names_ok n k (suc f) d false z S (onward e) unnamed β in (
        free b r g (and_left (is_false b) A t) h.asked,
        append β k (suc f) d false z S (onward e) unnamed x nothing 0 (g ∷ G)
            (record { at = h.at; end = onward_is e x.ends g 0 h.end; known = refl; asked = refl; above = h.above; framed = h.framed })
            (and_right (is_false b) A t),
      )
  append (act (suc zero) ∷ β) k zero d b z S e i x r g G h t = absurd t
  append (act (suc zero) ∷ β) k (suc f) d b z S e i x r g [] h t = absurd h.framed
  append (act (suc zero) ∷ β) k (suc f) d b z S e i x r g (v ∷ G) h t =
      let A = names_ok n k f d false z S (onward e) unknown β in (
        free b r g (and_left (is_false b) A t) h.asked,
        append β k f d false z S (onward e) unknown x nothing v G
            (record { at = h.at; end = onward_is e x.ends g v h.end; known = tt; asked = refl; above = h.above; framed = h.framed })
            (and_right (is_false b) A t),
      )
  append (act (suc (suc zero)) ∷ β) k f d b z S e i x r g G h t =
      (free b r g (and_left (is_false b) (names_ok n k f d false z S e i β) t) h.asked, append β k f d false z S e i x nothing g G (unasked k f d b z S e i x r g G h) (and_right (is_false b) (names_ok n k f d false z S e i β) t))
  append (act (suc (suc (suc zero))) ∷ β) k f d b z S e i x r g G h t =
      let A = names_ok n (still_kept f k lost) f d false z S (onward e) (cond (is_pushed i) owns just) β in (
        free b r g (and_left (is_false b) A t) h.asked,
        append β (still_kept f k lost) f d false z S (onward e) (cond (is_pushed i) owns just) x nothing x.count G
            (record {
              at = h.at;
              end = onward_is e x.ends g x.count h.end;
              known = name_known i x g h.known;
              asked = refl;
              above = h.above;
              framed = framed_through f k lost x g x.count G tt h.framed;
            })
            (and_right (is_false b) A t),
      )
  append (act (suc (suc (suc (suc zero)))) ∷ β) k f d b z S e i x r g G h t =
      let A = names_ok n k f d false z S e i β in
      (asked_now b r g (and_left b A t) h.asked, append β k f d false z S e i x nothing g G (unasked k f d b z S e i x r g G h) (and_right b A t))
  append (act (suc (suc (suc (suc (suc zero))))) ∷ β) k f d b z S e i x r g G h t =
      (free b r g (and_left (is_false b) (names_ok n k f d false z S e i β) t) h.asked, append β k f d false z S e i x nothing g G (unasked k f d b z S e i x r g G h) (and_right (is_false b) (names_ok n k f d false z S e i β) t))
  append (act (suc (suc (suc (suc (suc (suc zero)))))) ∷ β) k f d b z S e i x r g G h t =
      (free b r g (and_left (is_false b) (names_ok n k f d false z S e i β) t) h.asked, append β k f d false z S e i x nothing g G (unasked k f d b z S e i x r g G h) (and_right (is_false b) (names_ok n k f d false z S e i β) t))
  append (act (suc (suc (suc (suc (suc (suc (suc m))))))) ∷ β) k f d b z S e i x r g G h t =
      (free b r g (and_left (is_false b) (names_ok n k f d false z S e i β) t) h.asked, append β k f d false z S e i x nothing g G (unasked k f d b z S e i x r g G h) (and_right (is_false b) (names_ok n k f d false z S e i β) t))

pub good_grow : (p : ℕ) → p < forms.count → (n : ℕ) → forms.lhs p ≡ n → (x : Walk) (r : Closed) (g : ℕ) (G : List ℕ) (α : List Sym) → Good x r g G (nt n ∷ α) → Good x r g G (body p ++ α)
good_grow p l n q x r g G α h =
    append n x g G α h.1.at h.2 (body p) true 0 0 false true [] (ends_in n) (known_in n) x r g G
    (record { at = is_one_lem x.last; end = h.1.end; known = h.1.known; asked = h.0; above = refl; framed = (refl, refl) })
    (subst (λ (y : ℕ). T (names_ok y true 0 0 false true [] (ends_in y) (known_in y) (body p))) q (rules_close p l))
