-- 01's sizes: "a text has at most 65,536 bytes and 8,192 elements; a survey at most 1,024 pieces". Assumes nothing.
use Rattle.std.specs.Prelude.{ℕ}

abbrev pub most_bytes : ℕ
most_bytes = 65536

abbrev pub most_elements : ℕ
most_elements = 8192

abbrev pub most_pieces : ℕ
most_pieces = 1024
