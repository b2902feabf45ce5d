-- Copying by origin: a text is `Sound` for a post, every Split keeps it so, and a sound text meets demand 3. Assumes nothing.
use mathlib.Core.Path.{◌≡◌, refl, sym, ap, subst, ◌∙◌}
use mathlib.Core.Logic.{inl, inr}
use mathlib.Core.Bool.{Bool, true, false, cond, true≢false}
use mathlib.Core.List.{List, [], ◌∷◌, ◌++◌, map}
use Prim.Native.Nat.{ℕ, zero, suc, ◌+◌, ◌-◌, ◌≤◌, ◌<◌}
use native.Mathlib.Omega.{arith}
use native.Mathlib.Decide.{ℕ_discrete}
use lib.ListN.{length, get_or, take, drop, take-append-drop}
use lib.Dec.{T, eqb, eqb→eq, eqb_refl}
use Rattle.text.specs.Cells.{Cell, cells_from, cells_of, feed, bytes, origins, more_after}
use Rattle.text.specs.Split.{Split, done, copied, consumed, lost, wrote}
use Rattle.text.specs.Origins.{one, count, or_last, last_origin, StandsIn, NonBlank, Settled, CopiedBefore, CopiedByOrigin}

-- ---- counting

T_of : {b : Bool} → b ≡ true → T b
T_of e = subst T (sym e) tt

one-not : (n a : ℕ) → (a ≡ n → ⊥) → one n a ≡ 0
one-not n a f = go (eqb a n) refl
  where
    go : (b : Bool) → eqb a n ≡ b → ◌≡◌ {A = ℕ} (cond b 1 0) 0
    go true e = absurd (f (eqb→eq a n (T_of e)))
    go false e = refl

one-self : (n : ℕ) → one n n ≡ 1
one-self n = go (eqb n n) (eqb_refl n)
  where
    go : (b : Bool) → T b → ◌≡◌ {A = ℕ} (cond b 1 0) 1
    go true t = refl
    go false t = absurd t

one-eq : (n a : ℕ) → a ≡ n → one n a ≡ 1
one-eq n a e = rw e (one-self n)

pub count-append : (n : ℕ) (l m : List ℕ) → count n (l ++ m) ≡ count n l + count n m
unfolding count
count-append n [] m = omega arith
count-append n (a ∷ l) m = omega (arith, count-append n l m)

-- ---- strictly rising origins

-- the numbers other than 0 rise strictly, and lie above n
pub data Rising : ℕ → List ℕ → Type 0 where
  end : {n : ℕ} → Rising n []
  flat : {n a : ℕ} {l : List ℕ} → a ≡ 0 → Rising n l → Rising n (a ∷ l)
  rise : {n a : ℕ} {l : List ℕ} → n < a → Rising a l → Rising n (a ∷ l)

lower : {m n : ℕ} {l : List ℕ} → m ≤ n → Rising n l → Rising m l
lower h end = end
lower h (flat z r) = flat z (lower h r)
lower {m} h (rise {a = a} g r) = let k : m < a = omega arith in rise k r

tail-rising : {n a : ℕ} {l : List ℕ} → Rising n (a ∷ l) → Rising n l
tail-rising (flat z r) = r
tail-rising (rise h r) = lower (omega arith) r

rising-left : (l m : List ℕ) {n : ℕ} → Rising n (l ++ m) → Rising n l
rising-left [] m r = end
rising-left (a ∷ l) m (flat z r) = flat z (rising-left l m r)
rising-left (a ∷ l) m (rise h r) = rise h (rising-left l m r)

above : {m : ℕ} {l : List ℕ} → Rising m l → (k : ℕ) → k < length l → 0 < get_or l k 0 → m < get_or l k 0
above end k h p = omega arith
above (flat z r) zero h p = omega arith
above (flat z r) (suc k) h p = above r k (omega arith) p
above (rise g r) zero h p = g
above (rise g r) (suc k) h p = omega (arith, above r k (omega arith) p)

rising-at : {m : ℕ} {l : List ℕ} → Rising m l → (j k : ℕ) → j < k → k < length l → 0 < get_or l j 0 → 0 < get_or l k 0 → get_or l j 0 < get_or l k 0
rising-at end j k h g p q = omega arith
rising-at (flat z r) j zero h g p q = omega arith
rising-at (flat z r) zero (suc k) h g p q = omega arith
rising-at (flat z r) (suc j) (suc k) h g p q = rising-at r j k (omega arith) (omega arith) p q
rising-at (rise u r) j zero h g p q = omega arith
rising-at (rise u r) zero (suc k) h g p q = above r k (omega arith) q
rising-at (rise u r) (suc j) (suc k) h g p q = rising-at r j k (omega arith) (omega arith) p q

-- what lies at or below n is not counted in a list that rises above n
count-below : (k : ℕ) → 0 < k → {n : ℕ} {l : List ℕ} → Rising n l → k ≤ n → count k l ≡ 0
unfolding count
count-below k p end h = refl
count-below k p (flat {a = a} z r) h = omega (arith, one-not k a (λ (e : a ≡ k). omega arith), count-below k p r h)
count-below k p (rise {a = a} g r) h = omega (arith, one-not k a (λ (e : a ≡ k). omega arith), count-below k p r (omega arith))

-- what lies at or below the last origin of l is not counted behind l
count-behind : (k : ℕ) → 0 < k → (l m : List ℕ) {n : ℕ} → Rising n (l ++ m) → k ≤ last_origin l → count k m ≡ 0
unfolding last_origin count
count-behind k p [] m r h = omega arith
count-behind k p (a ∷ l) m (flat z r) h = count-behind k p l m r (go (last_origin l) h)
  where
    go : (b : ℕ) → k ≤ or_last a b → k ≤ b
    go zero g = omega arith
    go (suc b) g = g
count-behind k p (a ∷ l) m (rise u r) h = go (last_origin l) (count-behind k p l m r) h
  where
    go : (b : ℕ) → (k ≤ b → count k m ≡ 0) → k ≤ or_last a b → count k m ≡ 0
    go zero f g = omega (arith, count-below k p r g, count-append k l m)
    go (suc b) f g = f g

-- ---- what a Split keeps

rising-split : {o t i : List Cell} → Split o t i → {n : ℕ} → Rising n (origins i) → Rising n (origins o)
rising-split done h = h
rising-split (copied c r) (flat z h) = flat z (rising-split r h)
rising-split (copied c r) (rise g h) = rise g (rising-split r h)
rising-split (consumed c r) h = rising-split r (tail-rising h)
rising-split (lost c b r) h = rising-split r (tail-rising h)
rising-split (wrote c z r) h = flat z (rising-split r h)

abbrev pub All : (Cell → Type 0) → List Cell → Type 0
All P [] = Unit {0}
All P (c ∷ x) = P c × All P x

all_split : (P : Cell → Type 0) → ((c : Cell) → c.origin ≡ 0 → P c) → {o t i : List Cell} → Split o t i → All P i → All P o
all_split P w done h = tt
all_split P w (copied c r) h = (h.0, all_split P w r h.1)
all_split P w (consumed c r) h = all_split P w r h.1
all_split P w (lost c b r) h = all_split P w r h.1
all_split P w (wrote c z r) h = (w c z, all_split P w r h)

all_map : {P Q : Cell → Type 0} → ((c : Cell) → P c → Q c) → (x : List Cell) → All P x → All Q x
all_map f [] h = tt
all_map f (c ∷ x) h = (f c h.0, all_map f x h.1)

all-at : (P : Cell → Type 0) (x : List Cell) → ((j : ℕ) → j < length x → P (get_or x j feed)) → All P x
all-at P [] f = tt
all-at P (c ∷ x) f = (f 0 (omega arith), all-at P x (λ j h. f (suc j) (omega arith)))

-- a cell that is not blank, if it has the origin n
abbrev Solid : ℕ → Cell → Type 0
Solid n c = c.origin ≡ n → c.blank ≡ false

one-lost : (n : ℕ) (c : Cell) → Solid n c → c.blank ≡ true → one n c.origin ≡ 0
one-lost n c f b = one-not n c.origin (λ e. true≢false (sym b ∙ f e))

-- each origin of the input that is not a blank's is copied or consumed, as often as it stands there
count-split : (n : ℕ) → 0 < n → {o t i : List Cell} → Split o t i → All (Solid n) i
    → count n (origins o) + count n (origins t) ≡ count n (origins i)
unfolding count
count-split n p done h = refl
count-split n p (copied c r) h = omega (arith, count-split n p r h.1)
count-split n p (consumed c r) h = omega (arith, count-split n p r h.1)
count-split n p (lost c b r) h = omega (arith, count-split n p r h.1, one-lost n c h.0 b)
count-split n p (wrote c z r) h = omega (arith, count-split n p r h, one-not n c.origin (λ (e : c.origin ≡ n). omega arith))

-- ---- a post's own cells

bytes-from : (next : ℕ → ℕ) (o more : ℕ) (s : List ℕ) → bytes (cells_from next o more s) ≡ s
unfolding cells_from
bytes-from next o more [] = refl
bytes-from next o more (b ∷ s) = ap (λ (l : List ℕ). b ∷ l) (bytes-from next (next o) _ s)

-- the bytes of a post's cells are the post
pub bytes-cells_of : (post : List ℕ) → bytes (cells_of post) ≡ post
unfolding cells_of
bytes-cells_of post = bytes-from suc 1 0 post

-- its origins are n, n + 1, ..
from-origin : (n more : ℕ) (s : List ℕ) (j : ℕ) → j < length (cells_from suc n more s) → (get_or (cells_from suc n more s) j feed).origin ≡ n + j
unfolding cells_from
from-origin n more [] j h = omega arith
from-origin n more (b ∷ s) zero h = omega arith
from-origin n more (b ∷ s) (suc j) h = omega (arith, from-origin (suc n) (more_after more (b ∷ s)) s j (omega arith))

from-rising : (n more : ℕ) (s : List ℕ) {m : ℕ} → m < n → Rising m (origins (cells_from suc n more s))
unfolding cells_from
from-rising n more [] h = end
from-rising n more (b ∷ s) h = rise h (from-rising (suc n) (more_after more (b ∷ s)) s (omega arith))

from-count : (n more : ℕ) (s : List ℕ) (k : ℕ) → 0 < n → n ≤ k → k < n + length s → count k (origins (cells_from suc n more s)) ≡ 1
unfolding cells_from count
from-count n more [] k p h g = omega arith
from-count n more (b ∷ s) k p h g = go (ℕ_discrete n k) (from-count (suc n) (more_after more (b ∷ s)) s k)
  where
    go : Dec (n ≡ k) → (0 < suc n → suc n ≤ k → k < suc n + length s → count k (origins (cells_from suc (suc n) (more_after more (b ∷ s)) s)) ≡ 1)
        → one k n + count k (origins (cells_from suc (suc n) (more_after more (b ∷ s)) s)) ≡ 1
    go (yes e) f =
        omega (arith, one-eq k n e, count-below k (omega arith) (from-rising (suc n) (more_after more (b ∷ s)) s {m = n} (omega arith)) (omega arith))
    go (no d) f = omega (arith, one-not k n d, f (omega arith) (omega arith) (omega arith))

length-bytes : (x : List Cell) → length (bytes x) ≡ length x
length-bytes [] = refl
length-bytes (c ∷ x) = ap suc (length-bytes x)

pub length-cells_of : (post : List ℕ) → length (cells_of post) ≡ length post
length-cells_of post = sym (length-bytes (cells_of post)) ∙ ap length (bytes-cells_of post)

byte_at : (x : List Cell) (j : ℕ) → j < length x → (get_or x j feed).byte ≡ get_or (bytes x) j 0
byte_at [] j h = omega arith
byte_at (c ∷ x) zero h = refl
byte_at (c ∷ x) (suc j) h = byte_at x j (omega arith)

-- ---- a text that copies a post by origin

-- a cell with an origin is the post's cell there
pub record Origin (post : List ℕ) (c : Cell) : Type 0 where
  pub inside : c.origin ≤ length post
  pub byte-there : c.byte ≡ get_or post (c.origin - 1) 0
  pub blank-there : c.blank ≡ (get_or (cells_of post) (c.origin - 1) feed).blank

abbrev pub Honest : List ℕ → Cell → Type 0
Honest post c = 0 < c.origin → Origin post c

-- a text made of a post by passes that took out the cells `t`
pub record Sound (post : List ℕ) (t x : List Cell) : Type 0 where
  pub honest : All (Honest post) x
  pub rises : Rising 0 (origins x)
  pub counts : (p : ℕ) → p < length post → NonBlank post p → count (suc p) (origins x) + count (suc p) (origins t) ≡ 1

origin-at : (post : List ℕ) (j : ℕ) → j < length (cells_of post) → (get_or (cells_of post) j feed).origin ≡ suc j
unfolding cells_of
origin-at post j h = omega (arith, from-origin 1 0 post j h)

honest-post : (post : List ℕ) (j : ℕ) → j < length (cells_of post) → Honest post (get_or (cells_of post) j feed)
honest-post post j h p =
    let e : (get_or (cells_of post) j feed).origin - 1 ≡ j = omega (arith, origin-at post j h) in
    record {
      inside = omega (arith, origin-at post j h, length-cells_of post);
      byte-there = rw e (byte_at (cells_of post) j h ∙ ap (λ (l : List ℕ). get_or l j 0) (bytes-cells_of post));
      blank-there = rw e refl;
    }

pub sound-post : (post : List ℕ) → Sound post [] (cells_of post)
unfolding cells_of count
sound-post post =
    record {
      honest = all-at (Honest post) (cells_of post) (honest-post post);
      rises = from-rising 1 0 post (omega arith);
      counts = λ p h nb. omega (arith, from-count 1 0 post (suc p) (omega arith) (omega arith) (omega arith));
    }

solid : (post : List ℕ) (p : ℕ) → NonBlank post p → (c : Cell) → Honest post c → Solid (suc p) c
unfolding NonBlank
solid post p nb c ho e =
    let d : c.origin - 1 ≡ p = omega arith in
    (ho (omega arith)).blank-there ∙ ap (λ (q : ℕ). (get_or (cells_of post) q feed).blank) d ∙ nb

count-cells : (n : ℕ) (x y : List Cell) → count n (origins (x ++ y)) ≡ count n (origins x) + count n (origins y)
unfolding count
count-cells n [] y = omega arith
count-cells n (c ∷ x) y = omega (arith, count-cells n x y)

-- a pass that splits such a text makes such a text, and what it takes out is added
pub sound-split : (post : List ℕ) {t x y u : List Cell} → Sound post t x → Split y u x → Sound post (t ++ u) y
sound-split post {t} {x} {y} {u} s r =
    record {
      honest = all_split (Honest post) (λ c z p. absurd (omega arith)) r s.honest;
      rises = rising-split r s.rises;
      counts =
          λ p h nb.
          omega (arith, count-split (suc p) (omega arith) r (all_map (solid post p nb) x s.honest), s.counts p h nb, count-cells (suc p) t u);
    }

-- ---- what follows, for the uncut text and at every cut

settle : (n : ℕ) (os : List ℕ) (t : List Cell) → count n os + count n (origins t) ≡ 1 → Settled (StandsIn t) os n
settle n os t e = go (count n os) refl
  where
    go : (k : ℕ) → count n os ≡ k → Settled (StandsIn t) os n
    go zero h = inr (h, omega arith)
    go (suc k) h = inl (omega arith, λ q. omega arith)

pub settled-whole : (post : List ℕ) {t x : List Cell} → Sound post t x → (p : ℕ) → p < length post → NonBlank post p → Settled (StandsIn t) (origins x) (suc p)
settled-whole post {t} {x} s p h nb = settle (suc p) (origins x) t (s.counts p h nb)

equal-at : (post : List ℕ) (x : List Cell) → All (Honest post) x → (j : ℕ) → j < length (origins x) → 0 < get_or (origins x) j 0
    → (get_or (origins x) j 0 ≤ length post) × (get_or (bytes x) j 0 ≡ get_or post (get_or (origins x) j 0 - 1) 0)
equal-at post [] a j h p = omega arith
equal-at post (c ∷ x) a zero h p = ((a.0 p).inside, (a.0 p).byte-there)
equal-at post (c ∷ x) a (suc j) h p = equal-at post x a.1 j (omega arith) p

all_left : (P : Cell → Type 0) (x y : List Cell) → All P (x ++ y) → All P x
all_left P [] y h = tt
all_left P (c ∷ x) y h = (h.0, all_left P x y h.1)

origins-append : (x y : List Cell) → origins (x ++ y) ≡ origins x ++ origins y
origins-append [] y = refl
origins-append (c ∷ x) y = ap (λ (l : List ℕ). c.origin ∷ l) (origins-append x y)

copied-before : (post : List ℕ) {t : List Cell} (x y : List Cell) → Sound post t (x ++ y) → CopiedBefore post (StandsIn t) (bytes x) (origins x)
copied-before post {t} x y s =
    let r : Rising 0 (origins x ++ origins y) = rw (origins-append x y) at s.rises in
    record {
      equal = equal-at post x (all_left (Honest post) x y s.honest);
      rising = rising-at (rising-left (origins x) (origins y) r);
      settled =
          λ p h nb g.
          settle (suc p) (origins x) t
          (omega (arith, s.counts p h nb, count-cells (suc p) x y, count-behind (suc p) (omega arith) (origins x) (origins y) r g));
    }

map-take {ℓ} : {A B : Type ℓ} (f : A → B) (n : ℕ) (x : List A) → take n (map f x) ≡ map f (take n x)
map-take f zero x = refl
map-take f (suc n) [] = refl
map-take {B = B} f (suc n) (a ∷ x) = ap {B = List B} (λ l. f a ∷ l) (map-take f n x)

pub copied_at : (post : List ℕ) {t x : List Cell} → Sound post t x → (cut : ℕ) → CopiedBefore post (StandsIn t) (take cut (bytes x)) (take cut (origins x))
copied_at post {t} {x} s cut =
    rw (map-take (λ (c : Cell). c.byte) cut x, map-take (λ (c : Cell). c.origin) cut x)
    (copied-before post {t = t} (take cut x) (drop cut x) (rw (take-append-drop cut x) s))

-- demand 3 for a sound text
pub copied-by-origin : (post : List ℕ) {t x : List Cell} → Sound post t x → CopiedByOrigin post (StandsIn t) (bytes x) (origins x)
copied-by-origin post s = record { before = copied_at post s; whole = settled-whole post s }
