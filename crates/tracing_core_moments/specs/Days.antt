-- Seconds and days of UTC time; 0 is 1970-01-01T00:00:00Z.
use Rattle.std.specs.Prelude.{ℤ, pos, negsuc, Bool, ◌&&◌, int_le}
use Rattle.std.specs.Int.{int_div_euclid}

-- the seconds of moments: 0001-01-01T00:00:00Z to the last second of 9998-12-31
abbrev pub is_second : ℤ → Bool
is_second s = int_le (negsuc 62135596799) s && int_le s (pos 253370764799)

-- the days of dates with four digits of the year: 0000-01-01 to 9999-12-31
abbrev pub is_date : ℤ → Bool
is_date day = int_le (negsuc 719527) day && int_le day (pos 2932896)

-- the day in which a second lies
abbrev pub day_at : ℤ → ℤ
day_at s = int_div_euclid s (pos 86400)
