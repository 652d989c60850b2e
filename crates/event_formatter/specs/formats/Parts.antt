-- Which parts a line shows.
use Rattle.std.specs.Prelude.{true, false}
use Rattle.event_formatter.specs.declared.formats.parts.Parts.{Parts}

-- time, level and target
abbrev pub default_parts : Parts
default_parts =
    record {
      timestamp = true;
      level = true;
      target = true;
      thread_names = false;
      thread_ids = false;
      file = false;
      line_number = false;
    }
