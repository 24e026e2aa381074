-- "Legal names": those that 01's section "Elements" reads, whole, as one identifier that is no reserved word, or as one extended identifier; and
-- "Names are stored in lower case unless extended." Request 04 (accented letters) changes `is_letter` and `lower` of classes, and nothing here. Assumes
-- nothing.
use Rattle.std.specs.Prelude.{ℕ, Bool, true, false, ◌&&◌, List, [], ◌∷◌, eqb, length}
use Rattle.classes.specs.Bytes.{lower}
use Rattle.elements.specs.Element.{element_at}
use Rattle.elements.specs.declared.Kind.{Kind}
use Rattle.elements.specs.declared.Front.{Front}
use Rattle.elements.specs.declared.Front.TheVariants.{Skip, Element}

-- each byte is its own lower case
unfoldable pub in_lower_case : List ℕ → Bool
in_lower_case [] = true
in_lower_case (b ∷ s) = eqb (lower b) b && in_lower_case s

-- a name by its element's kind
abbrev pub named_by : Kind → List ℕ → Bool
named_by Kind.Identifier n = in_lower_case n
named_by Kind.Extended n = true
named_by (Kind.Literal l) n = false
named_by Kind.Unreadable n = false
named_by (Kind.Delimiter k) n = false
named_by (Kind.Reserved k) n = false

-- by what stands at the front, where that is all there is
abbrev pub named_whole : Front → List ℕ → Bool
named_whole (Skip k) n = false
named_whole (Element kind k) n = eqb k (length n) && named_by kind n

unfoldable pub legal_name : List ℕ → Bool
legal_name n = named_whole (element_at false n) n
