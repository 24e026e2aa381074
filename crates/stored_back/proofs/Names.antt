-- A name of a text, as it is stored, is a legal name; two that are stored alike are the same name, and none that is stored as a name of the
-- language is another's. Assumes nothing.
use Prim.Native.Nat.{ℕ, suc, ◌≤◌}
use mathlib.Core.Path.{◌≡◌, refl, sym, ap, ◌∙◌}
use mathlib.Core.Bool.{Bool, true, false, cond, ◌||◌, false≢true}
use mathlib.Core.List.{List, [], ◌∷◌, map}
use native.Mathlib.Omega.{arith}
use borrow.Author.Tests.{eq-eqb, eqb-true}
use lib.Dec.{eqb}
use lib.ListN.{length, get_or}
use Rattle.laws.proofs.Laws.{clash}
use Rattle.classes.specs.Bytes.{is_letter, lower}
use Rattle.classes.specs.Signs as byte
use Rattle.words.specs.Words.{bytes_of}
use Rattle.elements.specs.declared.Kind.{Kind}
use Rattle.elements.specs.declared.Front.{Front}
use Rattle.places.specs.Kinds.{identifier_kind, extended_kind, is_name}
use Rattle.same_names.specs.Spelling.{counts, by_kind, spelt}
use Rattle.names.specs.Language.{language_names, language_number}
use Rattle.meaning.specs.Elements.{Element}
use Rattle.meaning.specs.Names.{same_as, language}
use Rattle.stored.specs.LegalNames.{legal_name, named_whole}
use Rattle.stored.specs.Stored.{same_bytes, among}
use Rattle.stored.proofs.Names.{same_is}
use Rattle.stored_writing.specs.Written.{as_stored}
use Rattle.storing.specs.SurveyItems.{stored_name}
use Rattle.names_alone.specs.Alone.{ReadsAs, Alone}
use Rattle.names_alone.proofs.Names.{basic_is, extended_is, basic_reads}
use Rattle.stored_back.proofs.Lower.{lower_letters, lowered_at, basic_lower, all_lower, kept_same}

-- ---- the two ways to be a name

-- as it is stored: an identifier's bytes in lower case, an extended one's as they are
data Way (x : Element) : Type 0 where
  basic : x.kind ≡ identifier_kind → stored_name x ≡ map (counts true) x.bytes → ReadsAs Kind.Identifier x.bytes → Way x
  quoted : x.kind ≡ extended_kind → stored_name x ≡ x.bytes → ReadsAs Kind.Extended x.bytes → Way x

way : (x : Element) → Alone x → is_name x.kind ≡ true → Way x
unfolding stored_name as_stored
way x a n = go (eqb x.kind identifier_kind) (eqb x.kind extended_kind) refl refl n
  where
    go : (b d : Bool) → eqb x.kind identifier_kind ≡ b → eqb x.kind extended_kind ≡ d → (b || d) ≡ true → Way x
    go true d p q e = basic (eqb-true x.kind identifier_kind p) (ap (λ (b : Bool). map (counts b) x.bytes) p) (a.0 (eqb-true x.kind identifier_kind p))
    go false true p q e =
        quoted (eqb-true x.kind extended_kind q) (ap (λ (b : Bool). map (counts b) x.bytes) p ∙ kept_same x.bytes) (a.1 (eqb-true x.kind extended_kind q))
    go false false p q e = absurd (false≢true e)

-- ---- legal

legal_basic : (n : List ℕ) → ReadsAs Kind.Identifier n → legal_name (map (counts true) n) ≡ true
unfolding legal_name
legal_basic n e =
    let m : List ℕ = map (counts true) n in
    ap (λ (f : Front). named_whole f m) (basic_reads m (basic_lower n (basic_is false n (length n) e))) ∙ rw (eq-eqb (length m) (length m) refl) (all_lower n)

legal_extended : (n : List ℕ) → ReadsAs Kind.Extended n → legal_name n ≡ true
unfolding legal_name
legal_extended n e = ap (λ (f : Front). named_whole f n) e ∙ rw (eq-eqb (length n) (length n) refl)

pub stored_legal : (x : Element) → Alone x → is_name x.kind ≡ true → legal_name (stored_name x) ≡ true
stored_legal x a n = go (way x a n)
  where
    go : Way x → legal_name (stored_name x) ≡ true
    go (basic k e r) = ap legal_name e ∙ legal_basic x.bytes r
    go (quoted k e r) = ap legal_name e ∙ legal_extended x.bytes r

-- ---- stored alike

-- bytes that count the same are spelled the same
alike : (f : Bool) (a b : List ℕ) → map (counts f) a ≡ map (counts f) b → spelt f a b ≡ true
unfolding spelt
alike f [] [] h = refl
alike f [] (y ∷ b) h = let z : ◌≡◌ {A = ℕ} 0 1 = cc in clash z
alike f (x ∷ a) [] h = let z : ◌≡◌ {A = ℕ} 0 1 = cc in clash z
alike f (x ∷ a) (y ∷ b) h =
    let z : counts f x ≡ counts f y = cc in
    let w : map (counts f) a ≡ map (counts f) b = cc in
    rw (eq-eqb (counts f x) (counts f y) z) (alike f a b w)

same_by : (x y : Element) (k : ℕ) → x.kind ≡ k → y.kind ≡ k → by_kind k (spelt true y.bytes x.bytes) (spelt false y.bytes x.bytes) ≡ true → same_as y x ≡ true
unfolding same_as
same_by x y k p q h = rw (q, p, eq-eqb k k refl) h

-- an identifier begins with a letter, and an extended one does not
no_letter : is_letter byte.backslash ≡ true → ⊥
unfolding is_letter
no_letter h = false≢true h

begins_letter : (n : List ℕ) → ReadsAs Kind.Identifier n → is_letter (get_or (map (counts true) n) 0 0) ≡ true
begins_letter n r = ap is_letter (lowered_at n 0) ∙ lower_letters (get_or n 0 0) (basic_is false n (length n) r).letter

begins_backslash : (n : List ℕ) → ReadsAs Kind.Extended n → get_or n 0 0 ≡ byte.backslash
begins_backslash n r = (extended_is false n (length n) r).first

unlike : (n m : List ℕ) → ReadsAs Kind.Identifier n → ReadsAs Kind.Extended m → map (counts true) n ≡ m → ⊥
unlike n m r q e = no_letter (ap is_letter (sym (begins_backslash m q)) ∙ ap (λ (l : List ℕ). is_letter (get_or l 0 0)) (sym e) ∙ begins_letter n r)

pub stored_same : (x y : Element) → Alone x → Alone y → is_name x.kind ≡ true → is_name y.kind ≡ true → same_bytes (stored_name x) (stored_name y) ≡ true → same_as y x ≡ true
stored_same x y a b n m h = go (way x a n) (way y b m) (same_is (stored_name x) (stored_name y) h)
  where
    go : Way x → Way y → stored_name x ≡ stored_name y → same_as y x ≡ true
    go (basic k e r) (basic i d q) s = same_by x y identifier_kind k i (alike true y.bytes x.bytes (sym d ∙ sym s ∙ e))
    go (basic k e r) (quoted i d q) s = absurd (unlike x.bytes y.bytes r q (sym e ∙ s ∙ d))
    go (quoted k e r) (basic i d q) s = absurd (unlike y.bytes x.bytes q r (sym d ∙ sym s ∙ e))
    go (quoted k e r) (quoted i d q) s =
        same_by x y extended_kind k i (alike false y.bytes x.bytes (kept_same y.bytes ∙ sym d ∙ sym s ∙ e ∙ sym (kept_same x.bytes)))

-- ---- the language's names

-- they are in lower case, and begin with letters
abbrev Low : List (List ℕ) → Type 0
Low [] = Unit {0}
Low (m ∷ ms) = (map (counts true) m ≡ m) × (is_letter (get_or m 0 0) ≡ true) × Low ms

language_low : Low language_names
unfolding bytes_of lower is_letter
language_low = ((refl, refl, (refl, refl, (refl, refl, (refl, refl, (refl, refl, (refl, refl, tt)))))))

among_basic : (n : List ℕ) (ms : List (List ℕ)) (k : ℕ) → Low ms → 1 ≤ k → language_number (spelt true n) k ms ≡ 0 → among (map (counts true) n) ms ≡ false
unfolding among
among_basic n [] k l h e = refl
among_basic n (m ∷ ms) k l h e = go (spelt true n m) refl e (λ d. among_basic n ms (suc k) l.2 (omega arith) d)
  where
    differ : spelt true n m ≡ false → (b : Bool) → same_bytes (map (counts true) n) m ≡ b → b ≡ false
    differ f true p = absurd (false≢true (sym f ∙ alike true n m (same_is (map (counts true) n) m p ∙ sym l.0)))
    differ f false p = refl

    go : (b : Bool) → spelt true n m ≡ b → cond b k (language_number (spelt true n) (suc k) ms) ≡ 0 → (language_number (spelt true n) (suc k) ms ≡ 0 → among (map (counts true) n) ms ≡ false)
        → (same_bytes (map (counts true) n) m || among (map (counts true) n) ms) ≡ false
    go true p d ih = absurd (omega arith)
    go false p d ih = rw (differ p (same_bytes (map (counts true) n) m) refl) (ih d)

among_extended : (n : List ℕ) (ms : List (List ℕ)) → Low ms → get_or n 0 0 ≡ byte.backslash → among n ms ≡ false
unfolding among
among_extended n [] l e = refl
among_extended n (m ∷ ms) l e = rw (differ (same_bytes n m) refl) (among_extended n ms l.2 e)
  where
    differ : (b : Bool) → same_bytes n m ≡ b → b ≡ false
    differ true p = absurd (no_letter (ap is_letter (sym e) ∙ ap (λ (q : List ℕ). is_letter (get_or q 0 0)) (same_is n m p) ∙ l.1))
    differ false p = refl

pub stored_own : (x : Element) → Alone x → is_name x.kind ≡ true → language x ≡ 0 → among (stored_name x) language_names ≡ false
stored_own x a n h = go (way x a n)
  where
    go : Way x → among (stored_name x) language_names ≡ false
    go (basic k e r) =
        ap (λ (m : List ℕ). among m language_names) e
        ∙ among_basic x.bytes language_names 1 language_low (omega arith)
        (sym (ap (λ (b : Bool). cond b (language_number (spelt true x.bytes) 1 language_names) 0) (eq-eqb x.kind identifier_kind k)) ∙ h)
    go (quoted k e r) = ap (λ (m : List ℕ). among m language_names) e ∙ among_extended x.bytes language_names language_low (begins_backslash x.bytes r)
