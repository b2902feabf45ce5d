-- Document 01, "Quotes": what of the original text is masked before quote tags are looked for. "`[code]` or `[code=..]` to `[/code]`, then
-- `[c]` or `[icode]` to either closer, then `[noparse]` (shortest match, leftmost first, only if a closer follows) become spaces, one for
-- each character, line feeds kept."
--   Mask                what opens a masked region, and what closes it
--   either, mask_of      the words and the mask that code has
--   to_closer ws s       how many bytes of s stand before the first of the closers ws; all where there is none
--   region m s          how many bytes the masked region has that s begins with; 0 for none
--   blanked b           a byte of a region: a line feed stays, a character's first byte becomes a space, its others go
--   each f s            f b for every byte b of s, one after the other
--   NoMask s            s begins with no masked region
--   NoOpener a b s      s does not begin with `[` and the letter a as second or b as third byte, in either case: the bit 32 is set to compare
--   masked m left s     s masked by m, where the first `left` bytes are the rest of a region
--   visible s           s masked by code, then by c and icode, then by noparse
-- Assumes nothing.
use Rattle.std.specs.Prelude.{◌≡◌, ℕ, zero, suc, ◌+◌, ◌-◌, ◌≤◌, false, cond, ◌&&◌, ◌||◌, List, [], ◌∷◌, ◌++◌, take, drop, get_or, eqb, ltb}
use Rattle.std.specs.Int.Bits.{bit_or}
use Rattle.text.specs.Ascii.{ascii, is, inside}
use Rattle.quote_tags.specs.Tags.{begins_any, tag_size}
use Rattle.quote_tags.specs.declared.mask.Words.{Words}
use Rattle.quote_tags.specs.declared.mask.Mask.{Mask as Lent}

pub record Mask : Type 0 where
  pub opens : List (List ℕ)
  pub closes : List (List ℕ)

abbrev pub either : Words → List (List ℕ)
either w = w.first.now ∷ w.second.now ∷ []

abbrev pub mask_of : Lent → Mask
mask_of m = record { opens = either m.opens; closes = either m.closes }

unfoldable pub code : Mask
code = record { opens = ascii "[code]" ∷ ascii "[code=" ∷ []; closes = ascii "[/code]" ∷ [] }

unfoldable pub icode : Mask
icode = record { opens = ascii "[c]" ∷ ascii "[icode]" ∷ []; closes = ascii "[/c]" ∷ ascii "[/icode]" ∷ [] }

unfoldable pub noparse : Mask
noparse = record { opens = ascii "[noparse]" ∷ []; closes = ascii "[/noparse]" ∷ [] }

unfoldable pub to_closer : (closers : List (List ℕ)) → List ℕ → ℕ
to_closer ws [] = 0
to_closer ws (b ∷ s) = cond (begins_any ws (b ∷ s)) 0 (suc (to_closer ws s))

-- an opener of so many bytes, so many up to a closer, a closer of so many; 0 where the first or the last is
abbrev pub region_of : (opener between closer : ℕ) → ℕ
region_of opener between closer = cond (ltb 0 opener && ltb 0 closer) (opener + between + closer) 0

unfoldable pub region : Mask → List ℕ → ℕ
region m s =
    region_of (tag_size m.opens s) (to_closer m.closes (drop (tag_size m.opens s) s))
    (tag_size m.closes (drop (tag_size m.opens s + to_closer m.closes (drop (tag_size m.opens s) s)) s))

abbrev pub NoMask : List ℕ → Type 0
NoMask s = (region code s ≡ 0) × (region icode s ≡ 0) × (region noparse s ≡ 0)

unfoldable pub NoOpener : (a b : ℕ) → List ℕ → Type 0
NoOpener a b s = (is "[" (get_or s 0 0) && (eqb (bit_or (get_or s 1 0) 32) a || eqb (bit_or (get_or s 2 0) 32) b)) ≡ false

unfoldable pub blanked : ℕ → List ℕ
blanked b = cond (is "\n" b) (b ∷ []) (cond (inside 0x80 0xBF b) [] (32 ∷ []))

unfoldable pub each : (ℕ → List ℕ) → List ℕ → List ℕ
each f [] = []
each f (b ∷ s) = f b ++ each f s

-- a byte where so many bytes of a region are left
unfoldable pub shown : (left : ℕ) → ℕ → List ℕ
shown left b = cond (ltb 0 left) (blanked b) (b ∷ [])

unfoldable pub masked : Mask → (left : ℕ) → List ℕ → List ℕ
masked m left [] = []
masked m (suc left) (b ∷ s) = shown (suc left) b ++ masked m left s
masked m zero (b ∷ s) = shown (region m (b ∷ s)) b ++ masked m (region m (b ∷ s) - 1) s

unfoldable pub visible : List ℕ → List ℕ
visible s = masked noparse 0 (masked icode 0 (masked code 0 s))

-- in code: the first n bytes of a slice have been masked, and r are left of them
pub record Masked (m : Mask) (n : ℕ) (before : List ℕ) (r : ℕ) (after : List ℕ) : Type 0 where
  pub short : r ≤ n
  pub text : take r after ≡ masked m 0 (take n before)

-- in code: f b has been written for each byte b from a up to e, from a place `to` before them on up to r
pub record Rewritten (f : ℕ → List ℕ) (before : List ℕ) (a e to : ℕ) (after : List ℕ) (r : ℕ) : Type 0 where
  pub short : r ≤ to + (e - a)
  pub text : take r after ≡ take to before ++ each f (take (e - a) (drop a before))
  pub rest : drop e after ≡ drop e before

-- where it is known, from place i on, that the first closer from a place between a and q on stands at q, or that none stands there
pub record KnownCloser (ws : List (List ℕ)) (s : List ℕ) (i a q : ℕ) : Type 0 where
  pub at : (j : ℕ) → i ≤ j → a ≤ j → j ≤ q → q ≡ j + to_closer ws (drop j s)

-- all of this module, for `unfolding` where a closed text is to be computed
unfoldable pub computes : Unit {0}
unfolding code icode noparse to_closer region blanked shown masked visible
computes = tt
