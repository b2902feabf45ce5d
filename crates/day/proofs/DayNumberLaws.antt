-- `date_after n` is the one valid date whose day number is n. Assumes nothing.
use mathlib.Core.Path.{◌≡◌, refl, sym, ap, ◌∙◌}
use mathlib.Core.Bool.{Bool, true, false, cond}
use Prim.Native.Nat.{ℕ, zero, suc, ◌+◌, ◌-◌, ◌/◌, ◌≤◌, ◌<◌}
use native.Mathlib.Nat.{add-zero, add-suc}
use native.Mathlib.Numerals.{add-one}
use native.Mathlib.Omega.{arith}
use lib.Dec.{ltb}
use borrow.Author.Tests.{lt-ltb, le-ltb, ltb-true, ltb-false}
use Rattle.day.specs.declared.Date.{Date}
use Rattle.text.specs.Ascii.{ascii}
use Rattle.day.specs.Day.{leap, month_length, date, day_after, date_after, day_of, iso, number, computes}
use Rattle.day.proofs.DayNumber.{Valid, year_days, month_days, day_number, counts}

-- ---- a year's months

year-months : (y : ℕ) (t : Bool) → leap y ≡ t → month_days y 12 ≡ cond t 366 365
unfolding month_days month_length
year-months y true p = rw p
year-months y false p = rw p

-- every month has a day
month-some : (y k : ℕ) → k < 12 → 0 < month_length y (suc k)
unfolding month_length
month-some y zero h = omega arith
month-some y (suc zero) h = feb (leap y)
  where
    feb : (t : Bool) → 0 < cond t 29 28
    feb true = omega arith
    feb false = omega arith
month-some y (suc (suc zero)) h = omega arith
month-some y (suc (suc (suc zero))) h = omega arith
month-some y (suc (suc (suc (suc zero)))) h = omega arith
month-some y (suc (suc (suc (suc (suc zero))))) h = omega arith
month-some y (suc (suc (suc (suc (suc (suc zero)))))) h = omega arith
month-some y (suc (suc (suc (suc (suc (suc (suc zero))))))) h = omega arith
month-some y (suc (suc (suc (suc (suc (suc (suc (suc zero)))))))) h = omega arith
month-some y (suc (suc (suc (suc (suc (suc (suc (suc (suc zero))))))))) h = omega arith
month-some y (suc (suc (suc (suc (suc (suc (suc (suc (suc (suc zero)))))))))) h = omega arith
month-some y (suc (suc (suc (suc (suc (suc (suc (suc (suc (suc (suc zero))))))))))) h = omega arith
month-some y (suc (suc (suc (suc (suc (suc (suc (suc (suc (suc (suc (suc k)))))))))))) h = absurd (omega arith)

-- ---- the three cases of the next day

within : (y m d : ℕ) → d < month_length y m → day_after (date y m d) ≡ date y m (d + 1)
unfolding day_after
within y m d h = rw (lt-ltb d (month_length y m) h)

new-month : (y m d : ℕ) → month_length y m ≤ d → m < 12 → day_after (date y m d) ≡ date y (m + 1) 1
unfolding day_after
new-month y m d h k = rw (le-ltb d (month_length y m) h, lt-ltb m 12 k)

new-year : (y m d : ℕ) → month_length y m ≤ d → 12 ≤ m → day_after (date y m d) ≡ date (y + 1) 1 1
unfolding day_after
new-year y m d h k = rw (le-ltb d (month_length y m) h, le-ltb m 12 k)

-- ---- from a date's number to the date

walk-days : (n y m d : ℕ) → date_after n ≡ date y m 1 → d < month_length y m → date_after (n + d) ≡ date y m (d + 1)
unfolding date_after
walk-days n y m zero p h = rw add-zero p
walk-days n y m (suc d) p h =
    rw (add-suc n d, walk-days n y m d p (omega arith)) (within y m (d + 1) (omega arith) ∙ ap (date y m) (omega arith))

-- over the last day of a month
month-over : (n y m : ℕ) → date_after n ≡ date y m 1 → 0 < month_length y m → date_after (n + month_length y m) ≡ day_after (date y m (month_length y m))
unfolding date_after
month-over n y m p h =
    let e : n + month_length y m ≡ suc (n + (month_length y m - 1)) = omega arith in
    let f : month_length y m - 1 + 1 ≡ month_length y m = omega arith in
    ap date_after e ∙ ap day_after (walk-days n y m (month_length y m - 1) p (omega arith) ∙ ap (date y m) f)

walk-months : (n y k : ℕ) → date_after n ≡ date y 1 1 → k < 12 → date_after (n + month_days y k) ≡ date y (suc k) 1
unfolding month_days
walk-months n y zero p h = rw add-zero p
walk-months n y (suc k) p h =
    let e : n + (month_days y k + month_length y (suc k)) ≡ n + month_days y k + month_length y (suc k) = omega arith in
    let o = month-over (n + month_days y k) y (suc k) (walk-months n y k p (omega arith)) (month-some y k (omega arith)) in
    ap date_after e ∙ o ∙ new-month y (suc k) (month_length y (suc k)) (omega arith) (omega arith) ∙ rw add-one

walk-year : (n y : ℕ) → date_after n ≡ date y 1 1 → date_after (n + month_days y 12) ≡ date (y + 1) 1 1
unfolding month_days
walk-year n y p =
    let e : n + (month_days y 11 + month_length y 12) ≡ n + month_days y 11 + month_length y 12 = omega arith in
    ap date_after e ∙ month-over (n + month_days y 11) y 12 (walk-months n y 11 p (omega arith)) (month-some y 11 (omega arith))
    ∙ new-year y 12 (month_length y 12) (omega arith) (omega arith)

walk-years : (k : ℕ) → date_after (year_days k) ≡ date (1970 + k) 1 1
unfolding year_days date_after
walk-years zero = refl
walk-years (suc k) =
    let e : 1970 + k + 1 ≡ 1970 + suc k = omega arith in
    rw (← year-months (1970 + k) (leap (1970 + k)) refl) (walk-year (year_days k) (1970 + k) (walk-years k) ∙ ap (λ (y : ℕ). date y 1 1) e)

-- the date with a given number is what `date_after` names
pub only : (t : Date) → Valid t → date_after (day_number t) ≡ t
unfolding day_number
only t v =
    let y = t.year in
    let n = year_days (y - 1970) in
    let e : 1970 + (y - 1970) ≡ y = omega arith in
    let m : suc (t.month - 1) ≡ t.month = omega arith in
    let d : t.day - 1 + 1 ≡ t.day = omega arith in
    let a : date_after n ≡ date y 1 1 = walk-years (y - 1970) ∙ ap (λ (x : ℕ). date x 1 1) e in
    let b : date_after (n + month_days y (t.month - 1)) ≡ date y t.month 1 =
    walk-months n y (t.month - 1) a (omega arith) ∙ ap (λ (x : ℕ). date y x 1) m in
    walk-days (n + month_days y (t.month - 1)) y t.month (t.day - 1) b (omega arith) ∙ ap (date y t.month) d

-- ---- and back

-- the next day is a date, and its number is one more
record Next (t : Date) (u : Date) : Type 0 where
  valid : Valid u
  number : day_number u ≡ suc (day_number t)

next : (t : Date) → Valid t → (b : Bool) → ltb t.day (month_length t.year t.month) ≡ b → (c : Bool) → ltb t.month 12 ≡ c → Next t (day_after t)
unfolding day_number month_days year_days
next t v true p c q =
    let h = ltb-true t.day (month_length t.year t.month) p in
    rw (within t.year t.month t.day h)
    (record { valid = record { year = v.year; month = v.month; month-end = v.month-end; day = omega arith; day-end = omega arith }; number = omega arith })
next t v false p true q =
    let h = ltb-false t.day (month_length t.year t.month) p in
    let k = ltb-true t.month 12 q in
    let e : t.month + 1 - 1 ≡ suc (t.month - 1) = omega arith in
    let m : suc (t.month - 1) ≡ t.month = omega arith in
    let s : 0 < month_length t.year (t.month + 1) = rw add-one (month-some t.year t.month (omega arith)) in
    let g : month_days t.year (t.month + 1 - 1) ≡ month_days t.year (t.month - 1) + month_length t.year t.month = rw e (ap (λ (x : ℕ). month_days t.year (t.month - 1) + month_length t.year x) m) in
    rw (new-month t.year t.month t.day h k)
    (record { valid = record { year = v.year; month = omega arith; month-end = omega arith; day = omega arith; day-end = s }; number = omega (arith, g, v.day, v.day-end) })
next t v false p false q =
    let h = ltb-false t.day (month_length t.year t.month) p in
    let k = ltb-false t.month 12 q in
    let y = t.year in
    let m : t.month ≡ 12 = omega arith in
    let e : y + 1 - 1970 ≡ suc (y - 1970) = omega arith in
    let f : 1970 + (y - 1970) ≡ y = omega arith in
    let g : year_days (y + 1 - 1970) ≡ year_days (y - 1970) + month_days y 12 =
    rw e (ap (λ (x : ℕ). year_days (y - 1970) + cond (leap x) 366 365) f ∙ ap (λ (x : ℕ). year_days (y - 1970) + x) (sym (year-months y (leap y) refl))) in
    let i : month_days y 12 ≡ month_days y (t.month - 1) + month_length y t.month = rw m refl in
    let s : 0 < month_length (t.year + 1) 1 = month-some (t.year + 1) 0 (omega arith) in
    rw (new-year t.year t.month t.day h k)
    (record { valid = record { year = omega arith; month = omega arith; month-end = omega arith; day = omega arith; day-end = s }; number = omega (arith, g, i, v.day, v.day-end) })

both : (n : ℕ) → Valid (date_after n) × (day_number (date_after n) ≡ n)
unfolding date_after day_number month_days year_days month_length
both zero = (record { year = omega arith; month = omega arith; month-end = omega arith; day = omega arith; day-end = omega arith }, refl)
both (suc n) =
    let h = both n in
    let s = next (date_after n) h.0 (ltb (date_after n).day (month_length (date_after n).year (date_after n).month)) refl (ltb (date_after n).month 12) refl in
    (s.valid, s.number ∙ ap suc h.1)

pub valid : (n : ℕ) → Valid (date_after n)
valid n = (both n).0

pub numbered : (n : ℕ) → day_number (date_after n) ≡ n
numbered n = (both n).1

-- document 01's position: 99999999999 / 86400 days after 1970-01-01
last-number : number (ascii "99999999999") / 86400 ≡ day_number (date 5138 11 16)
unfolding computes counts
last-number = refl

last-month : 16 ≤ month_length 5138 11
unfolding month_length leap
last-month = omega arith

last : day_of (ascii "99999999999") ≡ ascii "5138-11-16"
unfolding day_of iso
last =
    let v : Valid (date 5138 11 16) = record { year = omega arith; month = omega arith; month-end = omega arith; day = omega arith; day-end = last-month } in
    ap (λ (n : ℕ). iso (date_after n)) last-number ∙ ap iso (only (date 5138 11 16) v)
