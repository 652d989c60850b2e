-- Texts that are lent to writers, and visitors that are lent by those around them.
use Rattle.std.specs.Prelude.{[]}
use Rattle.std.specs.Borrow.{Lends, MutBor, Fml, RattleType}
use Rattle.std.specs.contracts.alloc.Global as global
use Rattle.std.specs.contracts.string.String as text
use Rattle.std.specs.contracts.impls.GlobalAllocator.TheImpl.{ghosts}
use mir.Syntax.{named}
use Rattle.event_formatter_text.specs.declared.formatted_fields.FormattedFields.{FormattedFields}
use Rattle.event_formatter_text.specs.declared.visitors.alt.Alt.{Alt}
use Rattle.event_formatter_text.specs.declared.visitors.alt.Messages.{Messages}
use Rattle.event_formatter_text.specs.declared.writer.Writer.{Writer}
use Rattle.event_formatter_text.specs.contracts.formatted_fields.FormattedFields as fields
use Rattle.event_formatter_text.specs.contracts.visitors.alt.Alt as alt
use Rattle.event_formatter_text.specs.contracts.visitors.alt.Messages as messages
use Rattle.event_formatter_text.specs.contracts.writer.Writer as writer

-- texts, in the terms of the toolchain
abbrev pub text_row : RattleType
text_row = text.the_row global.the_row ghosts

-- a writer ends with its text as the last one behind the writer that it lent; `named 1` is the lifetime parameter of
-- writers, in the terms of the toolchain
abbrev pub LendsText : MutBor Writer → Writer → Fml
LendsText w r =
    Lends (writer.the_row (record { mir = named 1; lft = [] })) text_row w r.out (λ t. record w.now { out = record w.now.out { now = t } })

-- what is kept of a span ends with the last text behind the writer
abbrev pub LendsKept : MutBor FormattedFields → Writer → Fml
LendsKept f r = Lends fields.the_row text_row f r.out (λ t. record f.now { text = t })

-- a visitor over another one ends with the last value behind r as that one
abbrev pub LendsInAlt : (V : RattleType) → MutBor (Alt V.Denot) → MutBor V.Denot → Fml
LendsInAlt V v r = Lends (alt.the_row V) V v r (λ w. record v.now { 0 = w })

abbrev pub LendsInMessages : (V : RattleType) → MutBor (Messages V.Denot) → MutBor V.Denot → Fml
LendsInMessages V v r = Lends (messages.the_row V) V v r (λ w. record v.now { 0 = w })
