use Rattle.std.proofs.Common.{string_bytes}
use Rattle.std.specs.Option.{option_map}
use Rattle.tracing_core_moments.proofs.Names.{unread_front, unread_back, unread_date}
use Rattle.tracing_core_moments.proofs.read.read_name.Goals as goal

pub returns-in_default-clause-none : goal.returns-in_default-clause-none
returns-in_default-clause-none c =
    unread_front c.args.kind (option_map string_bytes c.args.prefix.now) (option_map string_bytes c.args.suffix.now) c.args.name.now
    c.in_default.ensures.none

pub returns-in_default-without_suffix-clause-none : goal.returns-in_default-without_suffix-clause-none
returns-in_default-without_suffix-clause-none c =
    unread_back c.args.kind (option_map string_bytes c.args.prefix.now) (option_map string_bytes c.args.suffix.now) c.args.name.now
    c.in-Some.rest.now c.in-Some.ensures.some c.in_default-without_suffix.ensures.none

pub returns-in_default-read_stamp-clause-none : goal.returns-in_default-read_stamp-clause-none
returns-in_default-read_stamp-clause-none c =
    unread_date c.args.kind (option_map string_bytes c.args.prefix.now) (option_map string_bytes c.args.suffix.now) c.args.name.now
    c.in-Some.rest.now c.in-Some-without_suffix.date.now c.in-Some.ensures.some c.in-Some-without_suffix.ensures.some
    c.in_default-read_stamp.ensures.none
