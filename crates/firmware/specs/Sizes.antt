-- The version and the sizes that include/coherence.h names: how much is lent to the exported functions.
use Rattle.std.specs.Prelude.{ℕ}

-- 2.0.0: major * 65536 + minor * 256 + patch
abbrev pub header_version : ℕ
header_version = 131072

-- the words of a chassis
abbrev pub header_words : ℕ
header_words = 1510

-- the numbers of a record
abbrev pub header_fields : ℕ
header_fields = 7

-- the numbers that say where a run stands
abbrev pub header_standing : ℕ
header_standing = 3

-- the numbers that a look shows
abbrev pub header_seen : ℕ
header_seen = 6

-- the longest line
abbrev pub header_line : ℕ
header_line = 46
