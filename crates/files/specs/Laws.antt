-- What holds of all records and all bytes.
use Rattle.std.specs.Prelude.{◌≡◌, ℕ, ◌≤◌, true, List, ◌++◌, length, take, Ok, Err}
use Rattle.files.specs.Bytes.{AllSound, Sound, journal_bytes, record_bytes}
use Rattle.files.specs.Reading.{first, is_cut, records_of, rest_of}
use Rattle.lines.specs.Bytes.{AreBytes}
use Rattle.lines.specs.declared.fault.Fault.TheVariants.{Bad}
use Rattle.state.specs.declared.record.Record.{Record}

-- ---- one record

-- what is written is read, whatever is behind it
abbrev pub WrittenIsRead : Type 0
WrittenIsRead = (e : Record) (ys : List ℕ) → Sound e → first (record_bytes e ++ ys) ≡ Ok (e, ys)

-- what is read was written
abbrev pub ReadIsWritten : Type 0
ReadIsWritten = (bs : List ℕ) (e : Record) (ys : List ℕ) → AreBytes bs → first bs ≡ Ok (e, ys) → Sound e × (bs ≡ record_bytes e ++ ys)

abbrev pub ReadsBack : Type 0
ReadsBack = WrittenIsRead × ReadIsWritten

-- no two records have the same bytes
abbrev pub Apart : Type 0
Apart = (e f : Record) → Sound e → Sound f → record_bytes e ≡ record_bytes f → e ≡ f

-- ---- several records

-- a journal's bytes are read as its records, and no other journal has them
abbrev pub OneReading : Type 0
OneReading =
    ((es : List Record) → AllSound es → records_of (journal_bytes es) ≡ es)
    × ((es fs : List Record) → AllSound es → AllSound fs → journal_bytes es ≡ journal_bytes fs → es ≡ fs)

-- the first part of a file: the bytes of its records, and no longer front of it is the bytes of records
pub record IsFirstPart (file part : List ℕ) : Type 0 where
  pub records : part ≡ journal_bytes (records_of file)
  pub sound : AllSound (records_of file)
  pub behind : file ≡ part ++ rest_of file
  pub longest : (es : List Record) (ys : List ℕ) → AllSound es → file ≡ journal_bytes es ++ ys → length (journal_bytes es) ≤ length part

abbrev pub Longest : Type 0
Longest = (bs : List ℕ) → AreBytes bs → IsFirstPart bs (journal_bytes (records_of bs))

-- of records that were cut at k bytes, the first n are read: all that lie whole within k bytes. What is behind them is cut
pub record IsCutAt (es : List Record) (k n : ℕ) : Type 0 where
  pub read : records_of (take k (journal_bytes es)) ≡ take n es
  pub whole : (j : ℕ) → j ≤ length es → length (journal_bytes (take j es)) ≤ k → j ≤ n
  pub behind : is_cut (rest_of (take k (journal_bytes es))) ≡ true

abbrev pub CutAnywhere : Type 0
CutAnywhere = (es : List Record) (k : ℕ) → AllSound es → (n : ℕ) × IsCutAt es k n

-- a file may be read in parts: what is behind the records of one part is read with the next part
abbrev pub InParts : Type 0
InParts = (xs ys : List ℕ) →
    (records_of (xs ++ ys) ≡ records_of xs ++ records_of (rest_of xs ++ ys))
    × (rest_of (xs ++ ys) ≡ rest_of (rest_of xs ++ ys))

-- a fault that no bytes mend: what is bad is bad whatever is behind it
abbrev pub BadStays : Type 0
BadStays = (xs ys : List ℕ) → first xs ≡ Err Bad → first (xs ++ ys) ≡ Err Bad
