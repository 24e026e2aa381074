-- Cutting is local: which elements are a piece is told by themselves and the cuts at their two ends. Assumes nothing.
use Prim.Native.Nat.{ℕ}
use mathlib.Core.Path.{◌≡◌, refl, sym, ap, ap₂, subst, ◌∙◌}
use mathlib.Core.Bool.{Bool, true, false, ◌||◌}
use mathlib.Core.List.{List, [], ◌∷◌, ◌++◌, append-nil, append_assoc}
use native.Mathlib.Omega.{arith}
use lib.Dec.{T}
use Rattle.pieces.specs.Cutting as spec
use Rattle.pieces.proofs.Cutting.{Edge, cut_join}
use Rattle.damage.proofs.Order.{First, Rising, rising_right}

module _ {E : Type 0} (closes opens : E → Bool) where
  abbrev cut : List E → List (List E)
  cut = spec.cut closes opens

  abbrev pub join_all : List (List E) → List E
  join_all [] = []
  join_all (p ∷ ps) = p ++ join_all ps

  -- cut at both ends and nowhere between
  pub record Lone (a p b : List E) : Type 0 where
    pub first : E
    pub rest : List E
    pub some : p ≡ first ∷ rest
    pub one : cut p ≡ p ∷ []
    pub front : Edge closes opens a p
    pub back : Edge closes opens p b

  -- an edge asks for the first element alone
  pub edge_more : (a : List E) (x : E) (l m : List E) → Edge closes opens a (x ∷ l) → Edge closes opens a (x ∷ m)
  edge_more [] x l m h = tt
  edge_more (y ∷ []) x l m h = h
  edge_more (y ∷ z ∷ a) x l m h = edge_more (z ∷ a) x l m h

  pub edge_behind : (q : List E) (x : E) (a b : List E) → Edge closes opens (x ∷ a) b → Edge closes opens (q ++ x ∷ a) b
  edge_behind [] x a b h = h
  edge_behind (y ∷ []) x a b h = h
  edge_behind (y ∷ z ∷ q) x a b h = edge_behind (z ∷ q) x a b h

  -- such elements are a piece
  pub lone_piece : (a p b : List E) → Lone a p b → cut (a ++ (p ++ b)) ≡ cut a ++ p ∷ cut b
  lone_piece a p b n =
      cut_join closes opens a (p ++ b) (subst (λ q. Edge closes opens a (q ++ b)) (sym n.some) (edge_more a n.first n.rest (n.rest ++ b) (subst (λ q. Edge closes opens a q) n.some n.front)))
      ∙ ap (λ (l : List (List E)). cut a ++ l) (cut_join closes opens p b n.back ∙ ap (λ (l : List (List E)). l ++ cut b) n.one)

  T_of : (b : Bool) → b ≡ true → T b
  T_of b e = subst T (sym e) tt

  -- the first piece of some elements
  record Front (l : List E) : Type 0 where
    piece : List E
    behind : List E
    others : List (List E)
    parts : l ≡ piece ++ behind
    cuts : cut l ≡ piece ∷ others
    rests : cut behind ≡ others
    lone : Lone [] piece behind

  first_piece : (x : E) (l : List E) → Front (x ∷ l)
  unfolding spec.cut
  first_piece x [] =
      record { piece = x ∷ []; behind = []; others = []; parts = refl; cuts = refl; rests = refl; lone = record { first = x; rest = []; some = refl; one = refl; front = tt; back = tt } }
  first_piece x (y ∷ l) = go (closes x || opens y) refl (first_piece y l)
    where
      go : (b : Bool) → (closes x || opens y) ≡ b → Front (y ∷ l) → Front (x ∷ y ∷ l)
      go true e f =
          record {
            piece = x ∷ [];
            behind = y ∷ l;
            others = cut (y ∷ l);
            parts = refl;
            cuts = ap (λ (b : Bool). spec.joined closes opens b x (cut (y ∷ l))) e;
            rests = refl;
            lone = record { first = x; rest = []; some = refl; one = refl; front = tt; back = T_of (closes x || opens y) e };
          }
      go false e f =
          let z : f.lone.first ∷ (f.lone.rest ++ f.behind) ≡ y ∷ l = sym (f.parts ∙ ap (λ (q : List E). q ++ f.behind) f.lone.some) in
          let w : f.lone.first ≡ y = cc in
          let p : f.piece ≡ y ∷ f.lone.rest = f.lone.some ∙ ap (λ (v : E). v ∷ f.lone.rest) w in
          record {
            piece = x ∷ f.piece;
            behind = f.behind;
            others = f.others;
            parts = ap (λ (q : List E). x ∷ q) f.parts;
            cuts = ap (λ (b : Bool). spec.joined closes opens b x (cut (y ∷ l))) e ∙ ap (λ (q : List (List E)). spec.put_front closes opens x q) f.cuts;
            rests = f.rests;
            lone =
                record {
                  first = x;
                  rest = f.piece;
                  some = refl;
                  one = ones f.piece f.lone.rest p f.lone.one;
                  front = tt;
                  back = backs f.piece f.lone.rest p f.lone.back;
                };
          }
        where
          ones : (q r : List E) → q ≡ y ∷ r → cut q ≡ q ∷ [] → cut (x ∷ q) ≡ (x ∷ q) ∷ []
          ones q r s c =
              ap (λ (k : List E). cut (x ∷ k)) s
              ∙ ap (λ (b : Bool). spec.joined closes opens b x (cut (y ∷ r))) e
              ∙ ap (λ (k : List E). spec.put_front closes opens x (cut k)) (sym s)
              ∙ ap (λ (k : List (List E)). spec.put_front closes opens x k) c

          backs : (q r : List E) → q ≡ y ∷ r → Edge closes opens q f.behind → Edge closes opens (x ∷ q) f.behind
          backs q r s c = subst (λ k. Edge closes opens (x ∷ k) f.behind) (sym s) (subst (λ k. Edge closes opens k f.behind) s c)

  -- nothing is lost
  joins_front : (b : Bool) (x : E) (ps : List (List E)) → join_all (spec.joined closes opens b x ps) ≡ x ∷ join_all ps
  joins_front true x ps = refl
  joins_front false x [] = refl
  joins_front false x (p ∷ ps) = refl

  pub cut_joins : (l : List E) → join_all (cut l) ≡ l
  unfolding spec.cut
  cut_joins [] = refl
  cut_joins (x ∷ []) = refl
  cut_joins (x ∷ y ∷ l) = joins_front (closes x || opens y) x (cut (y ∷ l)) ∙ ap (λ (m : List E). x ∷ m) (cut_joins (y ∷ l))

  -- no piece is empty
  abbrev pub Filled : List (List E) → Type 0
  Filled [] = Unit {0}
  Filled ([] ∷ ps) = ⊥
  Filled ((x ∷ p) ∷ ps) = Filled ps

  filled_front : (b : Bool) (x : E) (ps : List (List E)) → Filled ps → Filled (spec.joined closes opens b x ps)
  filled_front true x ps h = h
  filled_front false x [] h = tt
  filled_front false x ([] ∷ ps) h = absurd h
  filled_front false x ((y ∷ p) ∷ ps) h = h

  pub cut_filled : (l : List E) → Filled (cut l)
  unfolding spec.cut
  cut_filled [] = tt
  cut_filled (x ∷ []) = tt
  cut_filled (x ∷ y ∷ l) = filled_front (closes x || opens y) x (cut (y ∷ l)) (cut_filled (y ∷ l))

  edges : (q j p r b : List E) → b ≡ j ++ (p ++ r) → Edge closes opens q b → Lone j p r → Edge closes opens (q ++ j) p
  edges q [] p r b e h n =
      let z : b ≡ n.first ∷ (n.rest ++ r) = e ∙ ap (λ (k : List E). k ++ r) n.some in
      subst (λ k. Edge closes opens k p) (sym (append-nil q))
      (subst (λ k. Edge closes opens q k) (sym n.some) (edge_more q n.first (n.rest ++ r) n.rest (subst (λ k. Edge closes opens q k) z h)))
  edges q (x ∷ j) p r b e h n = edge_behind q x j p n.front

  none : {A : Type 0} (ps : List (List E)) (p : List E) (qs : List (List E)) → [] ≡ ps ++ p ∷ qs → A
  none [] p qs e = let z : ◌≡◌ {A = ℕ} 0 1 = cc in absurd (omega arith)
  none (q ∷ ps) p qs e = let z : ◌≡◌ {A = ℕ} 0 1 = cc in absurd (omega arith)

  -- what a piece is among the elements
  abbrev pub Stands : List (List E) → List E → List (List E) → List E → Type 0
  Stands ps p qs l = (l ≡ join_all ps ++ (p ++ join_all qs)) × Lone (join_all ps) p (join_all qs)

  stands_first : (p : List E) (qs : List (List E)) (l : List E) → Front l → cut l ≡ p ∷ qs → Stands [] p qs l
  stands_first p qs l f e =
      let u : f.piece ∷ f.others ≡ p ∷ qs = sym f.cuts ∙ e in
      let v : f.piece ≡ p = cc in
      let w : f.others ≡ qs = cc in
      let j : f.behind ≡ join_all qs = sym (cut_joins f.behind) ∙ ap join_all (f.rests ∙ w) in
      (f.parts ∙ ap₂ (λ (x y : List E). x ++ y) v j, subst (λ x. Lone [] x (join_all qs)) v (subst (λ y. Lone [] f.piece y) j f.lone))

  stands_next : (q : List E) (ps : List (List E)) (p : List E) (qs : List (List E)) (l : List E) (f : Front l) → cut l ≡ q ∷ (ps ++ p ∷ qs)
      → ((m : List E) → cut m ≡ ps ++ p ∷ qs → Stands ps p qs m) → Stands (q ∷ ps) p qs l
  stands_next q ps p qs l f e ih =
      let u : f.piece ∷ f.others ≡ q ∷ (ps ++ p ∷ qs) = sym f.cuts ∙ e in
      let v : f.piece ≡ q = cc in
      let w : f.others ≡ ps ++ p ∷ qs = cc in
      let s = ih f.behind (f.rests ∙ w) in
      let k : Edge closes opens q f.behind = subst (λ x. Edge closes opens x f.behind) v f.lone.back in (
        f.parts ∙ ap₂ (λ (x y : List E). x ++ y) v s.0 ∙ sym (append_assoc q (join_all ps) (p ++ join_all qs)),
        record {
          first = s.1.first;
          rest = s.1.rest;
          some = s.1.some;
          one = s.1.one;
          front = edges q (join_all ps) p (join_all qs) f.behind s.0 k s.1;
          back = s.1.back;
        },
      )

  front_some : (ps : List (List E)) (p : List E) (qs : List (List E)) (l : List E) → cut l ≡ ps ++ p ∷ qs → Front l
  unfolding spec.cut
  front_some ps p qs [] e = none ps p qs e
  front_some ps p qs (x ∷ l) e = first_piece x l

  pub piece_stands : (ps : List (List E)) (p : List E) (qs : List (List E)) (l : List E) → cut l ≡ ps ++ p ∷ qs → Stands ps p qs l
  piece_stands [] p qs l e = stands_first p qs l (front_some [] p qs l e) e
  piece_stands (q ∷ ps) p qs l e = stands_next q ps p qs l (front_some (q ∷ ps) p qs l e) e (λ m k. piece_stands ps p qs m k)

-- pieces in the order of their first elements
module _ {E : Type 0} (Before : E → E → Type 0) where
  abbrev pub Ahead : List E → List E → Type 0
  Ahead [] q = ⊥
  Ahead (x ∷ p) [] = ⊥
  Ahead (x ∷ p) (y ∷ q) = Before x y

  pub ahead_never : ((x : E) → Before x x → ⊥) → (p : List E) → Ahead p p → ⊥
  ahead_never f [] h = h
  ahead_never f (x ∷ p) h = f x h

  pub ahead_both : ((x y z : E) → Before x y → Before y z → Before x z) → (p q r : List E) → Ahead p q → Ahead q r → Ahead p r
  ahead_both f [] q r h k = h
  ahead_both f (x ∷ p) [] r h k = absurd h
  ahead_both f (x ∷ p) (y ∷ q) [] h k = k
  ahead_both f (x ∷ p) (y ∷ q) (z ∷ r) h k = f x y z h k

module _ {E : Type 0} (closes opens : E → Bool) (Before : E → E → Type 0) where
  first_behind : (x : E) (l m : List E) → First Before x (l ++ m) → First Before x m
  first_behind x [] m h = h
  first_behind x (y ∷ l) m h = first_behind x l m h.1

  first_ahead : (x : E) (p : List E) (ps : List (List E)) → Filled closes opens ps → First Before x (join_all closes opens ps) → First (Ahead Before) (x ∷ p) ps
  first_ahead x p [] h f = tt
  first_ahead x p ([] ∷ ps) h f = absurd h
  first_ahead x p ((y ∷ q) ∷ ps) h f = (f.0, first_ahead x p ps h (first_behind x q (join_all closes opens ps) f.1))

  rising_ahead : (ps : List (List E)) → Filled closes opens ps → Rising Before (join_all closes opens ps) → Rising (Ahead Before) ps
  rising_ahead [] h r = tt
  rising_ahead ([] ∷ ps) h r = absurd h
  rising_ahead ((x ∷ p) ∷ ps) h r = (first_ahead x p ps h (first_behind x p (join_all closes opens ps) r.0), rising_ahead ps h (rising_right Before p (join_all closes opens ps) r.1))

  -- elements in order are cut into pieces in order
  pub cut_rising : (l : List E) → Rising Before l → Rising (Ahead Before) (spec.cut closes opens l)
  cut_rising l r =
      rising_ahead (spec.cut closes opens l) (cut_filled closes opens l) (subst (λ k. Rising Before k) (sym (cut_joins closes opens l)) r)
