-- What a run of the program takes from its input and gives to its output, where their bytes are known.
use Rattle.std.specs.Prelude.{◌≤◌, Option, OnOk, length}
use Rattle.std.specs.Io.KnownBytes.{Consumes, Appends, IsAtEnd}
use Rattle.text.specs.Bytes.{Text}
use Rattle.script.specs.Scripts.{most_input, slips_output}
use Rattle.program.specs.declared.Ended.{Ended}

-- `left` is what the input has left to give before the run, `left'` behind it; `held` and `held'` what the output holds
pub record Transferred (left left' held held' : Option Text) (ended : Ended) : Type 0 where
  -- the bytes that were read
  pub input : Text
  pub read : Consumes left left' input
  -- where no read failed, they are all that the input had, or more than a script may have
  pub whole : OnOk ended.read (length input ≤ most_input → IsAtEnd left')
  -- where no write failed, the output has what the script program prints for them
  pub printed : OnOk ended.write (Appends held held' (slips_output input))
