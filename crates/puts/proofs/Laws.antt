-- Two puts make one, whatever the room; and what stands in the buffer where there was room. Assumes nothing.
use Prim.Native.Nat.{ℕ, suc, ◌+◌, ◌≤◌, ◌<◌, min}
use native.Mathlib.Nat.{add-zero}
use native.Mathlib.Omega.{arith}
use native.Mathlib.Numerals.{add-one}
use mathlib.Core.Path.{◌≡◌, refl, ap, sym, ◌∙◌}
use mathlib.Core.Bool.{Bool, true, false}
use mathlib.Core.List.{List, [], ◌∷◌, ◌++◌}
use lib.ListN.{length, take, drop, get_or, set, length-append}
use lib.Dec.{leb}
use borrow.Author.Tests.{leb-true, leb-false}
use lib.Seq.{sets, sets-eq, set_out, length-sets, take_at, take-suc, take-length, length-take-le}
use Rattle.puts.specs.Puts.{Wrote}

sets_past : (l : List ℕ) (i : ℕ) (vs : List ℕ) → length l ≤ i → sets l i vs ≡ l
sets_past l i [] h = refl
sets_past l i (a ∷ vs) h =
    let e : set l i a ≡ l = set_out l i a h in
    rw e (sets_past l (suc i) vs (omega arith))

pub sets_join : (l : List ℕ) (i : ℕ) (xs ys : List ℕ) → sets (sets l i xs) (i + length xs) ys ≡ sets l i (xs ++ ys)
sets_join l i [] ys = rw (add-zero i)
sets_join l i (a ∷ xs) ys =
    let e : i + suc (length xs) ≡ suc i + length xs = omega arith in
    ap (λ (k : ℕ). sets (sets (set l i a) (suc i) xs) k ys) e ∙ sets_join (set l i a) (suc i) xs ys

-- a place past the end is as good as the end
sets_clipped : (l : List ℕ) (i : ℕ) (vs : List ℕ) (m : ℕ) → m ≡ min i (length l) → (b : Bool) → leb i (length l) ≡ b → sets l m vs ≡ sets l i vs
sets_clipped l i vs m e true h =
    let k : i ≤ length l = leb-true i (length l) h in
    let q : m ≡ i = omega arith in
    ap (λ (n : ℕ). sets l n vs) q
sets_clipped l i vs m e false h =
    let k : length l < i = leb-false i (length l) h in
    sets_past l m vs (omega arith) ∙ sym (sets_past l i vs (omega arith))

-- THE LAW: two puts, the second where the first ended, are one
pub then : {t t' t'' xs ys : List ℕ} {at m r : ℕ} → Wrote t at xs t' m → Wrote t' m ys t'' r → Wrote t at (xs ++ ys) t'' r
then {t} {t'} {t''} {xs} {ys} {at} {m} {r} p q =
    let n : length t' ≡ length t = ap length p.bytes ∙ length-sets t at xs in
    let k : m ≡ min (at + length xs) (length (sets t at xs)) = rw length-sets p.reach in
    let e : length (xs ++ ys) ≡ length xs + length ys = length-append xs ys in
    record {
      bytes = q.bytes ∙ ap (λ (l : List ℕ). sets l m ys) p.bytes
          ∙ sets_clipped (sets t at xs) (at + length xs) ys m k (leb (at + length xs) (length (sets t at xs))) refl
          ∙ sets_join t at xs ys;
      reach = let a = p.reach in let b = q.reach in omega arith;
    }

-- three, four, five, in a row
pub then3 : {t t₁ t₂ t₃ xs ys zs : List ℕ} {a b c d : ℕ} → Wrote t a xs t₁ b → Wrote t₁ b ys t₂ c → Wrote t₂ c zs t₃ d
    → Wrote t a (xs ++ (ys ++ zs)) t₃ d
then3 p q r = then p (then q r)

pub then4 : {t t₁ t₂ t₃ t₄ xs ys zs ws : List ℕ} {a b c d e : ℕ} → Wrote t a xs t₁ b → Wrote t₁ b ys t₂ c → Wrote t₂ c zs t₃ d
    → Wrote t₃ d ws t₄ e → Wrote t a (xs ++ (ys ++ (zs ++ ws))) t₄ e
then4 p q r s = then p (then3 q r s)

-- what was put, by an equal name
pub named : {t t' xs ys : List ℕ} {at r : ℕ} → ys ≡ xs → Wrote t at xs t' r → Wrote t at ys t' r
named e p = rw e p

-- where there was room, the buffer up to the answer is what stood there, and what was put
pub room_all : {t t' bs : List ℕ} {at r : ℕ} → Wrote t at bs t' r → at + length bs ≤ length t → take r t' ≡ take at t ++ bs
room_all {t} {t'} {bs} {at} {r} p h =
    let a = p.reach in
    let e : r ≡ at + length bs = omega arith in
    let f : length (take at t ++ bs) ≡ r = rw (length-append, length-take-le at t (omega arith)) (sym e) in
    ap (take r) (p.bytes ∙ sets-eq bs t at h)
    ∙ take_at (take at t ++ bs) (drop (at + length bs) t) r f

-- and there was where the answer is below the length
pub room : {t t' bs : List ℕ} {at r : ℕ} → Wrote t at bs t' r → r < length t → take r t' ≡ take at t ++ bs
room p h = room_all p (let a = p.reach in omega arith)

-- and there is room where the length says so
pub fits : {t t' bs : List ℕ} {at r : ℕ} → Wrote t at bs t' r → at + length bs < length t → r < length t
fits p h = let a = p.reach in omega arith

-- one byte
pub none_put : (t : List ℕ) (at r : ℕ) → r ≡ min at (length t) → Wrote t at [] t r
none_put t at r e = record { bytes = refl; reach = omega arith }

pub byte_out : (t : List ℕ) (at b : ℕ) → length t ≤ at → Wrote t at (b ∷ []) t (length t)
byte_out t at b h = record { bytes = sym (set_out t at b h); reach = omega arith }

-- a put keeps the length
pub same_size : {t t' bs : List ℕ} {at r : ℕ} → Wrote t at bs t' r → length t' ≡ length t
same_size {t} {bs = bs} {at} p = ap length p.bytes ∙ length-sets t at bs

pub reached : {t t' bs : List ℕ} {at r : ℕ} → Wrote t at bs t' r → r ≤ length t'
reached p = let a = p.reach in let e = same_size p in omega arith

-- what `&out[..r]` asks beside it
pub counted : {t t' bs : List ℕ} {at r : ℕ} → Wrote t at bs t' r → r ≡ length (take r t')
counted {t' = t'} {r = r} p = sym (length-take-le r t' (reached p))

-- a byte more of a list
pub one_more : {t t' t'' : List ℕ} {at m r : ℕ} (s : List ℕ) (i : ℕ) → i < length s → Wrote t at (take i s) t' m
    → Wrote t' m (get_or s i 0 ∷ []) t'' r → Wrote t at (take (i + 1) s) t'' r
one_more s i h p q = named (rw add-one (take-suc s i 0 h)) (then p q)

pub all_of : {t t' : List ℕ} {at r : ℕ} (s : List ℕ) (i : ℕ) → i ≡ length s → Wrote t at (take i s) t' r → Wrote t at s t' r
all_of s i e p = named (sym (ap (λ (n : ℕ). take n s) e ∙ take-length s)) p
