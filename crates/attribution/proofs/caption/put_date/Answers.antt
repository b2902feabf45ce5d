use mathlib.Core.Path.{sym, ap, ◌∙◌}
use Prim.Native.Nat.{ℕ, ◌+◌, ◌-◌}
use mathlib.Core.List.{List, ◌++◌, append-nil}
use lib.ListN.{take, drop}
use Rattle.attribution.specs.Spoken.{said}
use Rattle.attribution_parts.specs.declared.Kind.TheVariants.{Date, Time}
use Rattle.day.specs.Day.{is_seconds, day_of}
use Rattle.text.specs.Ascii.{ascii}
use Rattle.text.specs.Cells.{written}
use Rattle.text.proofs.Writers.{wrote-as, wrote-none}
use Rattle.attribution.proofs.Speaking.{field-inside, inner-end, inner_cut}
use Rattle.attribution.proofs.Captioning.{day-shown, none-shown, time-shown, date-shown, both-shown, day-seconds}
use Rattle.attribution.proofs.caption.put_date.Goals as goal

pub put_day-requires : goal.put_day-requires
put_day-requires c = let a = c.args in
    let q = c.requires in
    let s = a.w.now.bytes.now in
    let t = field-inside s a.words q.0 Time a.time q.1.1.0 in
    (inner-end s a.words q.0 a.time.value.from a.time.value.size t, ap is_seconds (inner_cut s a.words q.0 a.time.value.from a.time.value.size t) ∙ day-seconds (said a.words s) a.time q.1.1.0 a.day q.1.1.1 c.if-day.true)

pub returns-then-day : goal.returns-then-day
returns-then-day c = let a = c.args in
    let q = c.requires in
    let s = a.w.now.bytes.now in
    let t = field-inside s a.words q.0 Time a.time q.1.1.0 in
    let v : List ℕ = take (a.time.value.from + a.time.value.size - a.time.value.from) (drop a.time.value.from (said a.words s)) in
    wrote-as (ap (λ (x : List ℕ). written (ascii "(" ++ (day_of x ++ ascii ")"))) (inner_cut s a.words q.0 a.time.value.from a.time.value.size t) ∙ day-shown (said a.words s) a.date a.time q.1.0 q.1.1.0 a.day (day_of v) q.1.1.1 c.if-day.true (sym (append-nil (day_of v)))) c.put_day.ensures

pub returns-else-time-ne0 : goal.returns-else-time-ne0
returns-else-time-ne0 c = let a = c.args in
    let q = c.requires in
    wrote-as (none-shown (said a.words a.w.now.bytes.now) a.date a.time q.1.0 q.1.1.0 a.day q.1.1.1 c.if-day.false c.if-date-eq0.true c.if-time-ne0.false) (wrote-none _)

pub returns-then-time-ne0 : goal.returns-then-time-ne0
returns-then-time-ne0 c = let a = c.args in
    let q = c.requires in
    let s = a.w.now.bytes.now in
    let t = field-inside s a.words q.0 Time a.time q.1.1.0 in
    wrote-as (ap (λ (x : List ℕ). written (ascii "(" ++ (x ++ ascii ")"))) (inner_cut s a.words q.0 a.time.value.from a.time.value.size t) ∙ time-shown (said a.words s) a.date a.time q.1.0 q.1.1.0 a.day q.1.1.1 c.if-day.false c.if-date-eq0.true c.if-time-ne0.true) c.put_bracketed_within.ensures

pub returns-then-time-eq0 : goal.returns-then-time-eq0
returns-then-time-eq0 c = let a = c.args in
    let q = c.requires in
    let s = a.w.now.bytes.now in
    let d = field-inside s a.words q.0 Date a.date q.1.0 in
    wrote-as (ap (λ (x : List ℕ). written (ascii "(" ++ (x ++ ascii ")"))) (inner_cut s a.words q.0 a.date.value.from a.date.value.size d) ∙ date-shown (said a.words s) a.date a.time q.1.0 q.1.1.0 a.day q.1.1.1 c.if-day.false c.if-date-eq0.false c.if-time-eq0.true) c.put_bracketed_within-then-time-eq0.ensures

pub returns-else-time-eq0 : goal.returns-else-time-eq0
returns-else-time-eq0 c = let a = c.args in
    let q = c.requires in
    let s = a.w.now.bytes.now in
    let d = field-inside s a.words q.0 Date a.date q.1.0 in
    let t = field-inside s a.words q.0 Time a.time q.1.1.0 in
    let x = inner_cut s a.words q.0 a.date.value.from a.date.value.size d in
    let y = inner_cut s a.words q.0 a.time.value.from a.time.value.size t in
    wrote-as (rw (x, y) (both-shown (said a.words s) a.date a.time q.1.0 q.1.1.0 a.day q.1.1.1 c.if-day.false c.if-date-eq0.false c.if-time-eq0.false)) c.put_both.ensures
