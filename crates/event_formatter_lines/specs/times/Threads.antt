-- The thread that a line is of.
use Rattle.std.specs.Prelude.{ℕ, ◌-◌, Bool, ◌&&◌, nat_lt, if◌then◌else◌, List, ◌++◌, codes, length}
use Rattle.std.specs.Fmt.{decimal}
use Rattle.std.specs.Str.{chars}
use Rattle.std.proofs.Math.ListN.{replicate}

-- what stands before a thread's number, with a zero where it is to have two digits at least
unfoldable pub id_start : Bool → ℕ → List ℕ
id_start is_padded id = if is_padded && nat_lt id 10 then codes "ThreadId(0" else codes "ThreadId("

abbrev pub thread_id_text : Bool → ℕ → List ℕ
thread_id_text is_padded id = id_start is_padded id ++ (decimal id ++ codes ")")

-- a name, right-aligned in as many characters as the longest name had bytes
abbrev pub padded_name : ℕ → List ℕ → List ℕ
padded_name longest name = replicate (longest - length (chars name)) 32 ++ name
