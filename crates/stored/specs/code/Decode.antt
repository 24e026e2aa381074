-- Reading a stored table, as a total definition. proofs/Promises.antt shows that it finds what Stored speaks of, and nothing else. Assumes
-- nothing.
use Rattle.std.specs.Prelude.{ℕ, zero, suc, ◌+◌, ◌*◌, Bool, true, false, cond, not, ◌&&◌, List, [], ◌∷◌, leb, ltb, eqb, length, get_or, take, drop, Option, Some, None}
use Rattle.std.proofs.Common.{to_z}
use Rattle.std.specs.Int.{w32}
use Rattle.integers.specs.FoldedNumbers.{beyond}
use Rattle.stored.specs.Fields.{Field, all_bytes, end_tag}
use Rattle.stored.specs.StoredItems.{StoredItem, name_tag, number_tag, truth_tag, subtype_tag, integer_byte, boolean_byte, two_bytes, three_bytes, number_size, subtype_size, value_size}
use Rattle.stored.specs.Stored.{Form, same_bytes, among, distinct, item_names, most_items}
use Rattle.stored.specs.declared.StoredValue.{StoredValue}
use Rattle.stored.specs.declared.StoredValue.TheVariants.{Number, Truth, Range, Truths}

abbrev pub tagged_field : ℕ → List ℕ → Field
tagged_field t b = record { tag = t; body = b }

-- a length, after its tag, and how many bytes it has
abbrev pub length_size : ℕ
length_size = 2

abbrev pub length_in : List ℕ → ℕ
length_in s = get_or s 0 0 * all_bytes + get_or s 1 0

unfoldable pub before : {A : Type 0} → A → Option (List A) → Option (List A)
before a None = None
before a (Some xs) = Some (a ∷ xs)

-- what stands after a tag 0
unfoldable pub ending : List ℕ → Option (List Field)
ending s = cond (eqb (length s) length_size && (eqb (get_or s 0 0) 0 && eqb (get_or s 1 0) 0)) (Some []) None

-- the first k bytes belong to the field read last
unfoldable pub fields_from : ℕ → List ℕ → Option (List Field)
fields_from zero [] = None
fields_from (suc k) [] = None
fields_from (suc k) (b ∷ s) = fields_from k s
fields_from zero (t ∷ s) =
    elim (eqb t end_tag) [
      | true ↦ ending s
      | false ↦ before (tagged_field t (take (length_in s) (drop length_size s))) (fields_from (suc (suc (length_in s))) s)
    ]

-- the places of a word's third and fourth byte
abbrev pub third_byte : ℕ
third_byte = 2

abbrev pub fourth_byte : ℕ
fourth_byte = 3

-- the four bytes from k
unfoldable pub word_in : List ℕ → ℕ → ℕ
word_in s k = get_or s k 0 * three_bytes + get_or s (k + 1) 0 * two_bytes + get_or s (k + third_byte) 0 * all_bytes + get_or s (k + fourth_byte) 0

-- the one word of 32 bits whose number is beyond the largest in size
abbrev pub too_large : ℕ → Bool
too_large n = eqb n beyond

unfoldable pub held_number : List ℕ → Option StoredValue
held_number s = cond (too_large (word_in s 0)) None (Some (Number (to_z w32 (word_in s 0))))

unfoldable pub held_truth : List ℕ → Option StoredValue
held_truth s = cond (eqb (get_or s 0 0) 0) (Some (Truth false)) (cond (eqb (get_or s 0 0) 1) (Some (Truth true)) None)

-- where a subtype's ends stand
abbrev pub low_place : ℕ
low_place = 1

abbrev pub high_place : ℕ
high_place = 5

unfoldable pub held_range : List ℕ → Option StoredValue
held_range s =
    cond (too_large (word_in s low_place)) None
    (cond (too_large (word_in s high_place)) None
    (Some (Range (to_z w32 (word_in s low_place)) (to_z w32 (word_in s high_place)))))

unfoldable pub held_truths : List ℕ → Option StoredValue
held_truths s = cond (eqb (word_in s low_place) 0) (cond (eqb (word_in s high_place) 1) (Some Truths) None) None

unfoldable pub held_subtype : List ℕ → Option StoredValue
held_subtype s = cond (eqb (get_or s 0 0) integer_byte) (held_range s) (cond (eqb (get_or s 0 0) boolean_byte) (held_truths s) None)

-- what contents begin with, by their tag
unfoldable pub held_value : ℕ → List ℕ → Option StoredValue
held_value t s =
    cond (eqb t number_tag) (cond (ltb (length s) number_size) None (held_number s))
    (cond (eqb t truth_tag) (cond (ltb (length s) 1) None (held_truth s))
    (cond (eqb t subtype_tag) (cond (ltb (length s) subtype_size) None (held_subtype s))
    None))

unfoldable pub item_fits : Form → StoredValue → List ℕ → Bool
item_fits F v n = F.admits v && (F.legal n && not (among n F.language))

-- a value whose item is legal
unfoldable pub held_legal : Form → Option StoredValue → List ℕ → Option StoredValue
held_legal F None s = None
held_legal F (Some v) s = cond (item_fits F v (drop (value_size v) s)) (Some v) None

unfoldable pub kept_in : Form → ℕ → List ℕ → Option StoredValue
kept_in F t s = held_legal F (held_value t s) s

-- with the name after it
unfoldable pub with_name : Option StoredValue → List ℕ → Option StoredItem
with_name None s = None
with_name (Some v) s = Some (record { value = v; name = drop (value_size v) s })

unfoldable pub item_in : Form → Field → Option StoredItem
item_in F f = with_name (kept_in F f.tag f.body) f.body

unfoldable pub with_item : Option StoredItem → Option (List StoredItem) → Option (List StoredItem)
with_item None is = None
with_item (Some i) is = before i is

unfoldable pub items_in_fields : Form → List Field → Option (List StoredItem)
items_in_fields F [] = Some []
items_in_fields F (f ∷ fs) = with_item (item_in F f) (items_in_fields F fs)

pub data Table : Type 0 where
  broken : Table
  table : List ℕ → List StoredItem → Table

unfoldable pub checked : List ℕ → Option (List StoredItem) → Table
checked n None = broken
checked n (Some is) = cond (leb (length is) most_items) (cond (distinct (item_names is)) (table n is) broken) broken

unfoldable pub titled : Form → List Field → Table
titled F [] = broken
titled F (f ∷ fs) = cond (eqb f.tag name_tag) (cond (F.legal f.body) (checked f.body (items_in_fields F fs)) broken) broken

-- after the form's head
unfoldable pub headed : Form → List Field → List Field → Table
headed F [] fs = titled F fs
headed F (h ∷ hs) [] = broken
headed F (h ∷ hs) (f ∷ fs) = cond (eqb h.tag f.tag && same_bytes h.body f.body) (headed F hs fs) broken

unfoldable pub whole_table : Form → Option (List Field) → Table
whole_table F None = broken
whole_table F (Some fs) = headed F F.head fs

unfoldable pub decode : Form → List ℕ → Table
decode F s = whole_table F (fields_from 0 s)
