-- The tables whole, from what each step wrote. Assumes nothing.
use mathlib.Core.Path.{◌≡◌, ap, ◌∙◌, subst}
use mathlib.Core.Bool.{Bool}
use mathlib.Core.List.{List}
use Prim.Native.Nat.{ℕ, ◌/◌, ◌≤◌, ◌<◌, min}
use native.Mathlib.Omega.{arith}
use lib.ListN.{length, get_or}
use Rattle.places.specs.Places.{rows_in}
use Rattle.records.specs.Counting.{one_if}
use Rattle.pieces.specs.Columns.{record_words}
use Rattle.places.specs.Sizes.{most_pieces}
use Rattle.names.specs.code.Links.{records_in, link_of, own_of, twin_of, any_twin, filled, links_table, owns_table, twins_table}
use Rattle.names.specs.code.Chains.{Chained, First, Flagging}
use Rattle.names.proofs.Tables.{filled_same}
use Rattle.names.proofs.Twins.{owns_first, flags_twins, flags_any}

pub links_whole : (text table items t : List ℕ) (count all rows m : ℕ) → all ≡ rows_in table → rows ≡ min count all → t ≡ filled (link_of text table items) rows m → t ≡ links_table text table count items m
unfolding links_table
links_whole text table items t count all rows m d e h = h ∙ ap (λ (r : ℕ). filled (link_of text table items) r m) (e ∙ ap (min count) d)

module _ (items : List ℕ) (n : ℕ) (e : n ≡ min (length items / record_words) most_pieces) where
  pub records_all : n ≡ records_in items
  unfolding records_in
  records_all = e

  pub records_most : n ≤ most_pieces
  records_most = omega arith

  pub chained_all : (p : ℕ → ℕ → Bool) (heads next : List ℕ) → Chained p n 0 heads next → Chained p (records_in items) 0 heads next
  chained_all p heads next h = subst (λ (k : ℕ). Chained p k 0 heads next) records_all h

  module _ (text table own : List ℕ) (owned : (i : ℕ) → i < n → get_or own i 0 ≡ own_of text table items i) where
    pub owns_firsts : First own n
    owns_firsts = owns_first text table items own n records_all owned

    pub owns_whole : (t : List ℕ) (m : ℕ) → t ≡ filled (λ (k : ℕ). get_or own k 0) n m → t ≡ owns_table text table items m
    unfolding owns_table
    owns_whole t m h =
        h ∙ filled_same (λ (k : ℕ). get_or own k 0) (own_of text table items) n m owned ∙ ap (λ (k : ℕ). filled (own_of text table items) k m) records_all

    module _ (flags : List ℕ) (any : Bool) (marked : Flagging own n n flags any) where
      pub answer_whole : any ≡ any_twin text table items
      answer_whole = flags_any text table items own n records_all owned flags any marked

      pub twins_whole : (t : List ℕ) (m : ℕ) → t ≡ filled (λ (k : ℕ). get_or flags k 0) n m → t ≡ twins_table text table items m
      unfolding twins_table
      twins_whole t m h =
          h ∙ filled_same (λ (k : ℕ). get_or flags k 0) (λ (k : ℕ). one_if (twin_of text table items k)) n m (flags_twins text table items own n records_all owned flags any marked)
          ∙ ap (λ (k : ℕ). filled (λ (k : ℕ). one_if (twin_of text table items k)) k m) records_all
