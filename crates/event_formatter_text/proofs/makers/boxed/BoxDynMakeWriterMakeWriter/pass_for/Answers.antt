use Rattle.std.proofs.Common.{true}
use Rattle.tracing_core_fields.specs.Metadata.{plain_metadata}
use Rattle.event_formatter_text.proofs.makers.Boxes.{told_in_box}
use Rattle.event_formatter_text.proofs.makers.boxed.BoxDynMakeWriterMakeWriter.pass_for.Goals as goal

pub returns : goal.returns
returns g c =
    let told = told_in_box (λ t w. record { ptr = c.args.self.now.ptr; vtable = t; alloc = c.args.self.now.alloc; value = w })
    (λ t v w. (g.dyn-1.0.entry t).1.takes v (plain_metadata c.args.metadata.now) true →
    (g.dyn-1.0.entry t).1.writes v (plain_metadata c.args.metadata.now) c.args.line.now c.pass_for.result w)
    c.deref_box_mut-1.result.now (c.args.self.now.vtable, c.args.self.now.value) c.deref_box_mut-1.ensures.value.1 c.pass_for.new.self
    c.pass_for.ensures in
    λ t. (told.0, told.1 t, told.2)
