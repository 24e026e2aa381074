-- What is told, along each rule, of the innermost frame's name and of the names of what stands open, and the computed test to a rule: a
-- name is compared exactly where it closes, and with what it closes. Assumes nothing.
use Prim.Native.Nat.{ℕ, zero, suc, ◌<◌}
use mathlib.Core.Path.{◌≡◌, refl}
use mathlib.Core.Bool.{Bool, true, false, ◌&&◌, ◌||◌, cond}
use mathlib.Core.List.{List, [], ◌∷◌, ◌++◌}
use lib.Dec.{T, eqb}
use lib.ListN.{get_or}
use Rattle.grammars.specs.code.Grammar.{Sym, tok, nt, act}
use Rattle.grammars.proofs.Theory.{mem, keep}
use Rattle.grammars.proofs.Check.{below_at, every}
use Rattle.forms.specs.code.RuleNames.{package_word, entity_word, architecture_word, closing, after_name, labelled_concurrent, block, process, after_first, labelled, loop, label}
use Rattle.forms.specs.code.Rules.{forms, body}
use Rattle.forms.specs.Spellings.{spelled_among}
use Rattle.forms.specs.Closing.{is_identifier, is_end, behind_unit, opens_one, behind_end}
use Rattle.forms.proofs.Walking.{Closed, nothing, named, Walk, innermost, label_of, walked, closed_by}
use Rattle.forms.proofs.Hints as hints

-- what is told of the end after which the last element stands: there is none, so that nothing is closed; it closes what the innermost frame names
pub data Ends : Type 0 where
  clear : Ends
  frame : Ends
  any : Ends

-- what is told of the innermost frame's name: that there is none; that it was just read; that it is the label of what opens now; that it
-- was just put in front of the names; that it is in front of them
pub data Known : Type 0 where
  unknown : Known
  unnamed : Known
  just : Known
  labels : Known
  pushed : Known
  owns : Known

-- what a name leaves of the innermost frame's name
pub data Out : Type 0 where
  kept : Out
  labelling : Out
  lost : Out

abbrev pub is_one : ℕ → List Sym → Bool
is_one n [] = false
is_one n (nt m ∷ l) = eqb n m || is_one n l
is_one n (tok a ∷ l) = is_one n l
is_one n (act a ∷ l) = is_one n l

-- the kinds that may stand before a name, and those that may be just read when it ends, if one of S was when it began
abbrev pub before : ℕ → List ℕ
before n = get_or hints.befores n []

abbrev pub null : ℕ → Bool
null n = get_or hints.nulls n false

abbrev pub after : ℕ → List ℕ → List ℕ
after n S = get_or hints.lasts n [] ++ keep (null n) S

-- what is told where a name begins, and where it ends
abbrev pub ends_in : ℕ → Ends
ends_in n = cond (is_one n (closing ∷ package_word ∷ entity_word ∷ architecture_word ∷ [])) frame clear

abbrev pub ends_out : ℕ → Ends
ends_out n = cond (is_one n (closing ∷ [])) any (ends_in n)

abbrev pub known_in : ℕ → Known
known_in n = cond (is_one n (labelled_concurrent ∷ block ∷ process ∷ labelled ∷ loop ∷ [])) labels unknown

abbrev pub out_of : ℕ → Out
out_of n = cond (is_one n (label ∷ [])) labelling (cond (is_one n (after_name ∷ after_first ∷ [])) lost kept)

abbrev pub EndsIs : Ends → Closed → ℕ → Type 0
EndsIs clear c g = c ≡ nothing
EndsIs frame c g = c ≡ named g
EndsIs any c g = Unit {0}

abbrev pub KnownIs : Known → Walk → ℕ → Type 0
KnownIs unknown x g = Unit {0}
KnownIs unnamed x g = g ≡ 0
KnownIs just x g = g ≡ x.count
KnownIs labels x g = g ≡ label_of x.last x.count
KnownIs pushed x g = innermost x.names ≡ x.count
KnownIs owns x g = g ≡ innermost x.names

abbrev pub OutIs : Out → Walk → ℕ → ℕ → Type 0
OutIs kept x g g' = g' ≡ g
OutIs labelling x g g' = g' ≡ label_of x.last x.count
OutIs lost x g g' = Unit {0}

pub record Enters (n : ℕ) (x : Walk) (g : ℕ) : Type 0 where
  pub at : T (mem x.last (before n))
  pub end : EndsIs (ends_in n) x.ends g
  pub known : KnownIs (known_in n) x g

pub record Leaves (n : ℕ) (x : Walk) (g : ℕ) (x' : Walk) (g' : ℕ) : Type 0 where
  pub at : T (mem x'.last (after n (x.last ∷ [])))
  pub end : EndsIs (ends_out n) x'.ends g'
  pub same : x'.names ≡ x.names
  pub out : OutIs (out_of n) x' g g'

-- With x walked over and r closed by the element just read, if that is not compared yet; g the innermost frame's name and G those around
-- it: α compares a name exactly where it closes, and with what it closes.
abbrev pub Good : Walk → Closed → ℕ → List ℕ → List Sym → Type 0
Good x r g G [] = r ≡ nothing
Good x r g G (tok a ∷ α) = (r ≡ nothing) × Good (walked x a) (closed_by x a) g G α
Good x r g G (nt n ∷ α) = (r ≡ nothing) × Enters n x g × ((x' : Walk) (g' : ℕ) → Leaves n x g x' g' → Good x' nothing g' G α)
Good x r g G (act zero ∷ α) = (r ≡ nothing) × Good x nothing 0 (g ∷ G) α
Good x r g [] (act (suc zero) ∷ α) = ⊥
Good x r g (h ∷ G) (act (suc zero) ∷ α) = (r ≡ nothing) × Good x nothing h G α
Good x r g G (act (suc (suc zero)) ∷ α) = (r ≡ nothing) × Good x nothing g G α
Good x r g G (act (suc (suc (suc zero))) ∷ α) = (r ≡ nothing) × Good x nothing x.count G α
Good x r g G (act (suc (suc (suc (suc zero)))) ∷ α) = (r ≡ named g) × Good x nothing g G α
Good x r g G (act (suc (suc (suc (suc (suc zero))))) ∷ α) = (r ≡ nothing) × Good x nothing g G α
Good x r g G (act (suc (suc (suc (suc (suc (suc zero)))))) ∷ α) = (r ≡ nothing) × Good x nothing g G α
Good x r g G (act (suc (suc (suc (suc (suc (suc (suc f))))))) ∷ α) = (r ≡ nothing) × Good x nothing g G α

-- the parts of a rule's test
abbrev pub same_bool : Bool → Bool → Bool
same_bool true b = b
same_bool false true = false
same_bool false false = true

pub same_bool_lem : (a b : Bool) → T (same_bool a b) → a ≡ b
same_bool_lem true true h = refl
same_bool_lem true false h = absurd h
same_bool_lem false true h = absurd h
same_bool_lem false false h = refl

abbrev pub is_false : Bool → Bool
is_false b = same_bool b false

abbrev pub head_of : List ℕ → ℕ
head_of [] = 0
head_of (p ∷ S) = p

abbrev pub is_clear : Ends → Bool
is_clear clear = true
is_clear frame = false
is_clear any = false

abbrev pub is_frame : Ends → Bool
is_frame clear = false
is_frame frame = true
is_frame any = false

abbrev pub is_told : Ends → Bool
is_told clear = true
is_told frame = true
is_told any = false

abbrev pub is_pushed : Known → Bool
is_pushed unknown = false
is_pushed unnamed = false
is_pushed just = false
is_pushed labels = false
is_pushed pushed = true
is_pushed owns = false

-- where the innermost frame changes
abbrev pub onward : Ends → Ends
onward clear = clear
onward frame = any
onward any = any

-- after a name
abbrev pub through : Out → Known → Known
through labelling i = labels
through lost i = unknown
through kept unknown = unknown
through kept unnamed = unnamed
through kept just = unknown
through kept labels = unknown
through kept pushed = unknown
through kept owns = owns

-- after an element of kind a that neither opens nor closes
abbrev pub stays : ℕ → Known → Known
stays a unknown = unknown
stays a unnamed = unnamed
stays a just = cond (spelled_among a (":" ∷ [])) labels unknown
stays a labels = unknown
stays a pushed = unknown
stays a owns = owns

abbrev pub no_colon : List ℕ → Bool
no_colon S = every (λ p. is_false (spelled_among p (":" ∷ []))) S

-- after a word that opens, one of S before it
abbrev pub opened : List ℕ → Known → Known
opened S unknown = unknown
opened S unnamed = cond (no_colon S) owns unknown
opened S just = unknown
opened S labels = owns
opened S pushed = unknown
opened S owns = unknown

-- after end
abbrev pub ended : Known → Ends
ended unknown = any
ended unnamed = any
ended just = any
ended labels = any
ended pushed = any
ended owns = frame

-- what is told is what is wanted
abbrev pub fits_ends : Ends → Ends → Bool
fits_ends any e = true
fits_ends clear e = is_clear e
fits_ends frame e = is_frame e

abbrev pub fits_known : List ℕ → Known → Known → Bool
fits_known S unknown i = true
fits_known S unnamed i = false
fits_known S just i = false
fits_known S pushed i = false
fits_known S owns i = false
fits_known S labels unknown = false
fits_known S labels unnamed = no_colon S
fits_known S labels just = false
fits_known S labels labels = true
fits_known S labels pushed = false
fits_known S labels owns = false

abbrev pub is_labels : Known → Bool
is_labels unknown = false
is_labels unnamed = false
is_labels just = false
is_labels labels = true
is_labels pushed = false
is_labels owns = false

abbrev pub fits_out : Out → Bool → Known → Bool
fits_out kept k i = k
fits_out labelling k i = is_labels i
fits_out lost k i = true

abbrev pub is_kept : Out → Bool
is_kept kept = true
is_kept labelling = false
is_kept lost = false

-- whether the frame in which the rule began still has its name
abbrev pub still_kept : ℕ → Bool → Out → Bool
still_kept zero k o = k && is_kept o
still_kept (suc f) k o = k

-- what an element does by its kind is the same after each of S
abbrev pub sure : ℕ → List ℕ → Ends → Bool
sure a S e =
    (is_frame e || every (λ p. same_bool (behind_unit p a) (behind_unit (head_of S) a)) S)
    && (every (λ p. same_bool (opens_one p a) (opens_one (head_of S) a)) S
    && (every (λ p. same_bool (behind_end p a) (behind_end (head_of S) a)) S && (is_false (is_identifier a) || is_told e)))

abbrev pub lower : ℕ → (ℕ → Bool) → Bool
lower zero f = false
lower (suc d) f = f d

abbrev pub asks : ℕ → Ends → Bool
asks a e = is_identifier a && is_frame e

-- the kinds that may be just read in a rule of n: one of S, or with z what stood before it
abbrev pub may : ℕ → Bool → List ℕ → List ℕ
may n z S = S ++ keep z (before n)

-- A rule's test, n being what it names. The frame in which it began has its name still, if k; f frames and d names came since; the element
-- just read is still to be compared, if b; one of S was just read, or nothing yet with z; e and i are told.
abbrev pub names_ok : ℕ → Bool → ℕ → ℕ → Bool → Bool → List ℕ → Ends → Known → List Sym → Bool
names_ok n k zero zero b z S e i [] =
    is_false b
    && (every (λ t. mem t (get_or hints.lasts n [])) S && ((is_false z || null n) && (fits_ends (ends_out n) e && fits_out (out_of n) k i)))
names_ok n k zero (suc d) b z S e i [] = false
names_ok n k (suc f) d b z S e i [] = false
names_ok n k f d b z S e i (tok a ∷ β) =
    is_false b
    && (sure a (may n z S) e
    && cond (is_end a) (lower d (λ d. names_ok n k f d (asks a e) false (a ∷ []) (ended i) unknown β))
    (cond (behind_unit (head_of (may n z S)) a && is_clear e) (names_ok n k f (suc d) (asks a e) false (a ∷ []) (cond (behind_end (head_of (may n z S)) a) e clear) pushed β)
    (cond (opens_one (head_of (may n z S)) a) (names_ok n k f (suc d) (asks a e) false (a ∷ []) (cond (behind_end (head_of (may n z S)) a) e clear) (opened (may n z S) i) β)
    (names_ok n k f d (asks a e) false (a ∷ []) (cond (behind_end (head_of (may n z S)) a) e clear) (stays a i) β))))
names_ok n k f d b z S e i (nt m ∷ β) =
    is_false b
    && (every (λ t. mem t (before m)) (may n z S)
    && (fits_ends (ends_in m) e
    && (fits_known (may n z S) (known_in m) i && names_ok n (still_kept f k (out_of m)) f d false (z && null m) (after m S) (ends_out m) (through (out_of m) i) β)))
names_ok n k f d b z S e i (act zero ∷ β) = is_false b && names_ok n k (suc f) d false z S (onward e) unnamed β
names_ok n k zero d b z S e i (act (suc zero) ∷ β) = false
names_ok n k (suc f) d b z S e i (act (suc zero) ∷ β) = is_false b && names_ok n k f d false z S (onward e) unknown β
names_ok n k f d b z S e i (act (suc (suc zero)) ∷ β) = is_false b && names_ok n k f d false z S e i β
names_ok n k f d b z S e i (act (suc (suc (suc zero))) ∷ β) =
    is_false b && names_ok n (still_kept f k lost) f d false z S (onward e) (cond (is_pushed i) owns just) β
names_ok n k f d b z S e i (act (suc (suc (suc (suc zero)))) ∷ β) = b && names_ok n k f d false z S e i β
names_ok n k f d b z S e i (act (suc (suc (suc (suc (suc zero))))) ∷ β) = is_false b && names_ok n k f d false z S e i β
names_ok n k f d b z S e i (act (suc (suc (suc (suc (suc (suc zero)))))) ∷ β) = is_false b && names_ok n k f d false z S e i β
names_ok n k f d b z S e i (act (suc (suc (suc (suc (suc (suc (suc g))))))) ∷ β) = is_false b && names_ok n k f d false z S e i β

abbrev pub rule_ok : ℕ → Bool
rule_ok p = names_ok (forms.lhs p) true 0 0 false true [] (ends_in (forms.lhs p)) (known_in (forms.lhs p)) (body p)

pub rules_close : (p : ℕ) → p < forms.count → T (rule_ok p)
rules_close p l = below_at forms.count rule_ok tt p l
