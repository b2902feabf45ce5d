-- The kinds of marks as code has them.
--   as_kind k   the kind of the definition that k stands for
-- Assumes nothing.
use Rattle.mark_tags.specs.Marks.{Kind, bold, italic, underline, strike}
use Rattle.mark_tags.specs.declared.kind.Kind as C
use Rattle.mark_tags.specs.declared.kind.Kind.TheVariants.{Bold, Italic, Underline, Strike}

abbrev pub as_kind : C.Kind → Kind
as_kind Bold = bold
as_kind Italic = italic
as_kind Underline = underline
as_kind Strike = strike
