-- How the code finds a name: names are hashed, byte by byte as each counts, and the records that claim a name of one hash are chained,
-- first to last. `heads` has the first of each chain, `next` the one after each, and one more; 0 where there is none. Assumes nothing.
use Rattle.std.specs.Prelude.{ℕ, zero, suc, ◌+◌, ◌-◌, ◌*◌, ◌/◌, ◌%◌, ◌≤◌, ◌<◌, ◌≡◌, Bool, true, cond, ◌&&◌, List, eqb, get_or}
use Rattle.same_names.specs.Spelling.{counts}
use Rattle.places.specs.Places.{kind_column, first_column, size_column, cell_at, within}
use Rattle.records.specs.Records.{word_at, is_claim}
use Rattle.pieces.specs.Columns as column
use Rattle.places.specs.Kinds.{identifier_kind}
use Rattle.names.specs.code.Links.{first_from}
use Rattle.names.specs.code.Language.{integer_name, natural_name, boolean_name, name_integer, name_natural, name_boolean}

-- how many hashes there are, what one is multiplied by, how many chains, and how many hashes to a chain
abbrev pub hashes : ℕ
hashes = 4294967296

abbrev pub multiplier : ℕ
multiplier = 2654435761

abbrev pub buckets : ℕ
buckets = 1024

abbrev pub per_chain : ℕ
per_chain = 4194304

-- a hash with a byte more
unfoldable pub mixed_with : ℕ → ℕ → ℕ
mixed_with h b = (h + b) * multiplier % hashes

-- the hash h with the n bytes from x more
unfoldable pub hash_from : Bool → List ℕ → ℕ → ℕ → ℕ → ℕ
hash_from basic s x zero h = h
hash_from basic s x (suc n) h = hash_from basic s (suc x) n (mixed_with h (counts basic (get_or s x 0)))

-- which chain a hash is of, by its highest bits
unfoldable pub chain_of : ℕ → ℕ
chain_of h = h / per_chain

-- which chain element e's name is of
unfoldable pub bucket_of : List ℕ → List ℕ → ℕ → ℕ
bucket_of s table e =
    cond (within s (cell_at table e first_column) (cell_at table e size_column)) (chain_of (hash_from (eqb (cell_at table e kind_column) identifier_kind) s (cell_at table e first_column) (cell_at table e size_column) 0)) 0

-- record j claims a name of chain b
unfoldable pub in_bucket : List ℕ → List ℕ → List ℕ → ℕ → ℕ → Bool
in_bucket text table items b j = is_claim (word_at items j column.class) && eqb (bucket_of text table (word_at items j column.name)) b

-- the chains of the records i to n - 1, for a test of each record and chain
pub record Chained (p : ℕ → ℕ → Bool) (n i : ℕ) (heads next : List ℕ) : Type 0 where
  pub headed : (b : ℕ) → b < buckets → get_or heads b 0 ≡ first_from (p b) i (n - i)
  pub linked : (b j : ℕ) → i ≤ j → j < n → p b j ≡ true → get_or next j 0 ≡ first_from (p b) (j + 1) (n - (j + 1))

-- record i has another's number
pub record Twin (own : List ℕ) (n i : ℕ) : Type 0 where
  pub inside : i < n
  pub other : ℕ
  pub other_inside : other < n
  pub differs : i ≡ other → ⊥
  pub shared : get_or own i 0 ≡ get_or own other 0
  pub named : get_or own i 0 ≡ 0 → ⊥

-- each number is that of the first record that has it
abbrev pub First : List ℕ → ℕ → Type 0
First own n = (i f : ℕ) → i < n → get_or own i 0 ≡ suc f → (f < n) × (get_or own f 0 ≡ suc f)

-- the flags when the first i of n records were looked at
pub record Flagging (own : List ℕ) (n i : ℕ) (flags : List ℕ) (any : Bool) : Type 0 where
  pub small : (k : ℕ) → get_or flags k 0 ≤ 1
  pub sound : (k : ℕ) → get_or flags k 0 ≡ 1 → Twin own n k
  pub complete : (k f : ℕ) → k < i → get_or own k 0 ≡ suc f → (k ≡ f → ⊥) → (get_or flags k 0 ≡ 1) × (get_or flags f 0 ≡ 1) × (any ≡ true)
  pub some : any ≡ true → (k : ℕ) × Twin own n k

-- a name of the language is told by its length first: the number of one of seven letters
abbrev pub seven_of : (List ℕ → Bool) → ℕ
seven_of p = cond (p integer_name) name_integer (cond (p natural_name) name_natural (cond (p boolean_name) name_boolean 0))
