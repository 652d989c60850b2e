-- What the example's filter passes.
use Rattle.std.specs.Prelude.{Bool, nat_le, codes}
use Rattle.std.specs.Str.{bytes_eq}
use Rattle.tracing_core.specs.PlainMetadata.{PlainMetadata}
use Rattle.examples.specs.declared.shown.Shown.{Shown}
use Rattle.examples.specs.declared.shown.Shown.TheVariants.{Info, Shop}

-- what is at least of the level INFO, or what the shop tells
abbrev pub shows : Shown → PlainMetadata → Bool
shows Info m = nat_le m.level 3
shows Shop m = bytes_eq m.target (codes "shop")
