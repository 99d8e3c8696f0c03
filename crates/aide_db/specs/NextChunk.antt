-- The outcome of asking a reel for the next chunk.
use Rattle.std.specs.Prelude.{ℕ, ◌≡◌, ◌≤◌, true, List, [], ◌++◌, length, take}
use Rattle.std.specs.Prelude.{Result, IfOk, OnErr, OnOk}
use Rattle.aide_fields.specs.Text.{is_filled}
use Rattle.sha2.specs.Hashers.{Holds256}
use Rattle.sha2.specs.declared.Sha256.{Sha256}
use Rattle.aide_entry.specs.Count.{one_more}
use Rattle.aide_db.specs.declared.chunk_reader.Filled.{Filled}
use Rattle.aide_entry.specs.declared.device_fault.DeviceFault.{DeviceFault}
use Rattle.aide_db.specs.declared.chunk_reader.Filled.TheVariants.{Some, Nothing, Failed}

-- A chunk was read, and the bytes that are left follow it. Or no chunk was read: at the end of the bytes, or because
-- the reel failed.
abbrev pub IsFilled : List ℕ → List ℕ → List ℕ → Filled → Type 0
IsFilled bytes left ahead Some = bytes ≡ ahead ++ left
IsFilled bytes left ahead Nothing = (bytes ≡ []) × (left ≡ [])
IsFilled bytes left ahead Failed = left ≡ bytes

-- bytes are ahead if the outcome is `Some`, and otherwise none are
abbrev pub IsAhead : List ℕ → Filled → Type 0
IsAhead ahead Some = is_filled ahead ≡ true
IsAhead ahead _ = ahead ≡ []

-- the count of failures after asking for a chunk
abbrev pub after_filled : Filled → ℕ → ℕ
after_filled Failed n = one_more n
after_filled _ n = n

-- this many bytes have come, and they are at the beginning of the chunk
abbrev pub IsChunkFront : ℕ → List ℕ → List ℕ → List ℕ → Type 0
IsChunkFront count chunk bytes left = bytes ≡ take count chunk ++ left

-- What asking a reel for at most this many bytes makes of the chunk and of the count of failures.
pub record IsReadInto (size : ℕ) (chunk chunk_now : List ℕ) (failures failures_now : ℕ)
    (result : Result ℕ DeviceFault) : Type 0 where
  -- the chunk keeps its length
  pub long : length chunk_now ≡ length chunk
  -- no more bytes have come than were asked for
  pub most : IfOk result (λ count. count ≤ size)
  -- a failed read counts one failure, and no other read counts one
  pub fault : OnErr result (failures_now ≡ one_more failures)
  pub ok : OnOk result (failures_now ≡ failures)

-- The bytes still to use stay the same. If there was no byte, none is left.
abbrev pub IsLeft : List ℕ → List ℕ → Filled → Type 0
IsLeft bytes left Some = left ≡ bytes
IsLeft bytes left Nothing = (bytes ≡ []) × (left ≡ [])
IsLeft bytes left Failed = left ≡ bytes

-- some or none of the first bytes still to come have come, and they have been hashed
pub record Gives (bytes left : List ℕ) (hash hash_now : Sha256) : Type 0 where
  pub given : List ℕ
  pub parts : bytes ≡ given ++ left
  pub hashed : (before : List ℕ) → Holds256 hash before → Holds256 hash_now (before ++ given)
