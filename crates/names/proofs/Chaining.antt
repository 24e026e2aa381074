-- The chains, a record at a time from the last to the first, and a search along one. Assumes nothing.
use mathlib.Core.Path.{◌≡◌, refl, sym, ap, ◌∙◌, subst}
use mathlib.Core.Bool.{Bool, true, false, ◌||◌, false≢true}
use mathlib.Core.List.{List}
use Prim.Native.Nat.{ℕ, zero, suc, ◌+◌, ◌-◌, ◌≤◌, ◌<◌}
use native.Mathlib.Decide.{ℕ_discrete}
use native.Mathlib.Omega.{arith}
use lib.Dec.{eqb}
use lib.ListN.{length, get_or, set}
use lib.Seq.{get_or-set_same, get_or-set_other}
use borrow.Author.Tests.{eq-eqb, ne_eqb, eqb-false}
use Rattle.laws.proofs.Laws.{both_left, both_right}
use Rattle.same_names.specs.Alike.{same_name}
use Rattle.places.specs.Places.{cell_at}
use Rattle.same_names.proofs.Sameness.{same_kindless}
use Rattle.records.specs.Records.{word_at, is_claim}
use Rattle.pieces.specs.Columns as column
use Rattle.places.specs.Sizes.{most_pieces}
use Rattle.places.specs.Kinds.{identifier_kind, extended_kind}
use Rattle.names.specs.code.Links.{records_in, first_from, claims_element, link_of, up_to}
use Rattle.names.specs.code.Chains.{bucket_of, in_bucket, Chained, buckets}
use Rattle.names.proofs.Firsts.{first_found, first_hit, first_miss, first_end, search_over, search_inside, search_in, search_hit, search_turn}
use Rattle.names.proofs.Hashing.{same_bucket}
use Rattle.names.proofs.Tables.{word_below}

pub chain_none : (p : ℕ → ℕ → Bool) (n : ℕ) (heads next : List ℕ) → ((b : ℕ) → get_or heads b 0 ≡ 0) → Chained p n n heads next
chain_none p n heads next h = record {
  headed = λ b l. h b ∙ sym (first_end (p b) n n (omega arith));
  linked = λ b j a l e. absurd (omega arith);
}

module _ (p : ℕ → ℕ → Bool) (n j : ℕ) (heads next : List ℕ) (h : Chained p n (j + 1) heads next) (inside : j < n) where
  pub chain_passes : ((b : ℕ) → p b j ≡ false) → Chained p n j heads next
  chain_passes f = record {
    headed = λ b l. h.headed b l ∙ sym (first_miss (p b) n j inside (f b));
    linked = λ b k a l e. go b k a l e (ℕ_discrete k j);
  }
    where
      go : (b k : ℕ) → j ≤ k → k < n → p b k ≡ true → Dec (k ≡ j) → get_or next k 0 ≡ first_from (p b) (k + 1) (n - (k + 1))
      go b k a l e (yes y) = absurd (false≢true (sym (f b) ∙ subst (λ (x : ℕ). p b x ≡ true) y e))
      go b k a l e (no y) = h.linked b k (omega arith) l e

  pub chain_takes : (c : ℕ) → c < buckets → length heads ≡ buckets → j < length next → p c j ≡ true → ((b : ℕ) → (b ≡ c → ⊥) → p b j ≡ false)
      → Chained p n j (set heads c (j + 1)) (set next j (get_or heads c 0))
  chain_takes c low size room t f = record { headed = λ b l. head b l (ℕ_discrete b c); linked = λ b k a l e. link b k a l e (ℕ_discrete k j) (ℕ_discrete b c) }
    where
      head : (b : ℕ) → b < buckets → Dec (b ≡ c) → get_or (set heads c (j + 1)) b 0 ≡ first_from (p b) j (n - j)
      head b l (yes y) = rw y (get_or-set_same heads c (j + 1) 0 (omega arith) ∙ sym (first_hit (p c) n j inside t))
      head b l (no y) = get_or-set_other heads c b (j + 1) 0 y ∙ h.headed b l ∙ sym (first_miss (p b) n j inside (f b y))

      link : (b k : ℕ) → j ≤ k → k < n → p b k ≡ true → Dec (k ≡ j) → Dec (b ≡ c) → get_or (set next j (get_or heads c 0)) k 0 ≡ first_from (p b) (k + 1) (n - (k + 1))
      link b k a l e (yes y) (yes z) = rw (y, z) (get_or-set_same next j (get_or heads c 0) 0 room ∙ h.headed c low)
      link b k a l e (yes y) (no z) = absurd (false≢true (sym (f b z) ∙ subst (λ (x : ℕ). p b x ≡ true) y e))
      link b k a l e (no y) d = get_or-set_other next j k (get_or heads c 0) 0 y ∙ h.linked b k (omega arith) l e

-- which chain a record is of
module _ (text table items : List ℕ) (j class : ℕ) (x : Bool) (u : class ≡ word_at items j column.class) (v : x ≡ is_claim class) where
  in_none : x ≡ false → (b : ℕ) → in_bucket text table items b j ≡ false
  unfolding in_bucket
  in_none h b = rw (← u, ← v, h)

  module _ (e c : ℕ) (h : x ≡ true) (w : e ≡ word_at items j column.name) (k : c ≡ bucket_of text table e) where
    in_own : in_bucket text table items c j ≡ true
    unfolding in_bucket
    in_own = rw (← u, ← v, h, ← w) (eq-eqb (bucket_of text table e) c (sym k))

    in_other : (b : ℕ) → (b ≡ c → ⊥) → in_bucket text table items b j ≡ false
    unfolding in_bucket
    in_other b d = rw (← u, ← v, h, ← w) (ne_eqb (bucket_of text table e) b (λ z. d (sym z ∙ sym k)))

  -- the turns of the loop, from the i-th record to the one before it
  module _ (n i : ℕ) (heads next : List ℕ) (s : j ≡ i - 1) (low : 0 < i) (high : i ≤ n) (inv : Chained (in_bucket text table items) n i heads next) where
    back : Chained (in_bucket text table items) n (j + 1) heads next
    back = let z : i ≡ j + 1 = omega arith in subst (λ (k : ℕ). Chained (in_bucket text table items) n k heads next) z inv

    pub record_passed : x ≡ false → Chained (in_bucket text table items) n j heads next
    record_passed h = chain_passes (in_bucket text table items) n j heads next back (omega arith) (in_none h)

    pub record_chained : (e c : ℕ) → x ≡ true → e ≡ word_at items j column.name → c ≡ bucket_of text table e → c < buckets → length heads ≡ buckets → length next ≡ buckets → n ≤ buckets
        → Chained (in_bucket text table items) n j (set heads c (j + 1)) (set next j (get_or heads c 0))
    record_chained e c h w k l size room most =
        chain_takes (in_bucket text table items) n j heads next back (omega arith) c l size (omega arith) (in_own e c h w k) (in_other e c h w k)

-- how much of a chain is left at h
abbrev pub left_of : ℕ → ℕ → ℕ
left_of n zero = 0
left_of n (suc j) = n - j

left_less : (q : ℕ → Bool) (n j g : ℕ) → j < n → g ≡ first_from q (j + 1) (n - (j + 1)) → left_of n g < n - j
left_less q n j zero l e = omega arith
left_less q n j (suc k) l e = let w = first_found q (j + 1) (n - (j + 1)) k (sym e) in let a = w.0 in let b = w.1 in omega arith

or_left : (a b : Bool) → (a || b) ≡ false → a ≡ false
or_left true b h = absurd (false≢true (sym h))
or_left false b h = refl

or_right : (a b : Bool) → (a || b) ≡ false → b ≡ false
or_right true b h = absurd (false≢true (sym h))
or_right false b h = h

module _ (text table items : List ℕ) (e : ℕ) where
  abbrev claims : ℕ → Bool
  claims = claims_element text table items e

  abbrev chain : ℕ → Bool
  chain = in_bucket text table items (bucket_of text table e)

  claims_chain : (k : ℕ) → claims k ≡ true → chain k ≡ true
  unfolding claims_element in_bucket
  claims_chain k h =
      let x = both_left (is_claim (word_at items k column.class)) (same_name text table (word_at items k column.name) e) h in
      let y = both_right (is_claim (word_at items k column.class)) (same_name text table (word_at items k column.name) e) h in
      rw x (eq-eqb (bucket_of text table (word_at items k column.name)) (bucket_of text table e) (same_bucket text table (word_at items k column.name) e y))

  -- no claims of what is no name
  search_not : (kind : ℕ) → kind ≡ cell_at table e 0 → (eqb kind identifier_kind || eqb kind extended_kind) ≡ false → 0 ≡ link_of text table items e
  unfolding link_of claims_element
  search_not kind k h = sym (go (link_of text table items e) refl)
    where
      go : (f : ℕ) → link_of text table items e ≡ f → link_of text table items e ≡ 0
      go zero g = g
      go (suc f) g =
          let w = first_found (claims_element text table items e) 0 (records_in items) f g in
          absurd (same_kindless text table (word_at items f column.name) e
          (λ z. eqb-false kind identifier_kind (or_left (eqb kind identifier_kind) (eqb kind extended_kind) h) (k ∙ z))
          (λ z. eqb-false kind extended_kind (or_right (eqb kind identifier_kind) (eqb kind extended_kind) h) (k ∙ z))
          (both_right (is_claim (word_at items f column.class)) (same_name text table (word_at items f column.name) e) w.2))

  pub link_not : (rows kind : ℕ) → e < rows → kind ≡ cell_at table e 0 → (eqb kind identifier_kind || eqb kind extended_kind) ≡ false → 0 ≡ up_to (link_of text table items) rows e
  link_not rows kind l k h = word_below (link_of text table items) rows e 0 l (search_not kind k h)

  -- what is left of the search at h
  pub record Searching (h : ℕ) : Type 0 where
    pub at : ℕ
    pub found : h ≡ first_from chain at (records_in items - at)
    pub left : first_from claims at (records_in items - at) ≡ link_of text table items e

  module _ (heads next : List ℕ) (chained : Chained (in_bucket text table items) (records_in items) 0 heads next) where
    pub search_start : (c : ℕ) → c ≡ bucket_of text table e → c < buckets → Searching (get_or heads c 0)
    unfolding link_of
    search_start c k l = let z : records_in items - 0 ≡ records_in items = omega arith in record {
      at = 0;
      found = chained.headed c l ∙ ap (λ (b : ℕ). first_from (in_bucket text table items b) 0 (records_in items - 0)) k;
      left = ap (first_from (claims_element text table items e) 0) z;
    }

    module _ (h j : ℕ) (s : Searching h) (some : h ≡ 0 → ⊥) (before : j ≡ h - 1) where
      one_more : h ≡ suc j
      one_more = omega arith

      pub search_place : j < records_in items
      search_place = search_inside claims chain claims_chain (records_in items) s.at h (link_of text table items e) s.found s.left j one_more

      in_chain : chain j ≡ true
      in_chain = search_in claims chain claims_chain (records_in items) s.at h (link_of text table items e) s.found s.left j one_more

      pub search_less : left_of (records_in items) (get_or next j 0) < left_of (records_in items) h
      search_less =
          rw one_more
          (left_less chain (records_in items) j (get_or next j 0) search_place (chained.linked (bucket_of text table e) j (omega arith) search_place in_chain))

      module _ (w : ℕ) (r : Bool) (is : w ≡ word_at items j column.name) (told : r ≡ same_name text table w e) where
        claims_told : claims j ≡ r
        unfolding claims_element in_bucket
        claims_told = rw (both_left (is_claim (word_at items j column.class)) (eqb (bucket_of text table (word_at items j column.name)) (bucket_of text table e)) in_chain, ← is) (sym told)

        pub search_found : r ≡ true → h ≡ link_of text table items e
        search_found t =
            search_hit claims chain claims_chain (records_in items) s.at h (link_of text table items e) s.found s.left j one_more (claims_told ∙ t)

        pub search_on : r ≡ false → Searching (get_or next j 0)
        search_on t = record {
          at = j + 1;
          found = chained.linked (bucket_of text table e) j (omega arith) search_place in_chain;
          left = search_turn claims chain claims_chain (records_in items) s.at h (link_of text table items e) s.found s.left j one_more (claims_told ∙ t);
        }

  pub search_done : (h : ℕ) → Searching h → h ≡ 0 → 0 ≡ link_of text table items e
  search_done h s z = search_over claims chain claims_chain (records_in items) s.at h (link_of text table items e) s.found s.left z

pub search_short : (items : List ℕ) (j : ℕ) → j < records_in items → j < most_pieces
unfolding records_in
search_short items j l = omega arith

pub chain_whole : (p : ℕ → ℕ → Bool) (n i : ℕ) (heads next : List ℕ) → i ≤ 0 → Chained p n i heads next → Chained p n 0 heads next
chain_whole p n i heads next l h = let z : i ≡ 0 = omega arith in subst (λ (k : ℕ). Chained p n k heads next) z h
