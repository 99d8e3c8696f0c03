-- What is at fault if a database is refused.
use Rattle.std.specs.Prelude.{◌≡◌, Bool, true, false}
use Rattle.aide_entry.specs.declared.fault_kind.DbFaultKind.{DbFaultKind}
use Rattle.aide_entry.specs.declared.fault_kind.DbFaultKind.TheVariants.{Memory, Read, TooManyBytes}

-- Something in the text, the length of the text, a failed allocation, or the device.
pub data Cause : Type 0 where
  in_text : Cause
  in_length : Cause
  in_memory : Cause
  in_device : Cause

-- the cause of each kind of fault
abbrev pub cause_of : DbFaultKind → Cause
cause_of TooManyBytes = in_length
cause_of Memory = in_memory
cause_of Read = in_device
cause_of _ = in_text

-- memory is at fault
abbrev pub from_memory : Cause → Bool
from_memory in_memory = true
from_memory _ = false

-- the fault is out of memory
abbrev pub is_memory : DbFaultKind → Bool
is_memory kind = from_memory (cause_of kind)

-- memory or the device is at fault, and not the text
abbrev pub from_outside : Cause → Bool
from_outside in_memory = true
from_outside in_device = true
from_outside _ = false

-- memory or the device is at fault, and not the text
abbrev pub is_outside : DbFaultKind → Bool
is_outside kind = from_outside (cause_of kind)

-- the first claim if the text is at fault, and the second one if memory or the device is
abbrev pub ByCause : Cause → Type 0 → Type 0 → Type 0
ByCause in_memory P Q = Q
ByCause in_device P Q = Q
ByCause _ P Q = P

-- the device is at fault
abbrev pub from_device : Cause → Bool
from_device in_device = true
from_device _ = false

-- the device is at fault
abbrev pub is_read : DbFaultKind → Bool
is_read kind = from_device (cause_of kind)

-- neither the device nor memory is at fault
abbrev pub IsOfText : DbFaultKind → Type 0
IsOfText kind = (is_read kind ≡ false) × (is_memory kind ≡ false)
