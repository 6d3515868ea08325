-- The values that document 01 marks with * ("Values to hold"), gathered as one statement about the definitions. The proof is `marked` of
-- proofs/Marked.antt.
use Rattle.fcr.specs.Values as fcr
use Rattle.mfrr.specs.Values as mfrr
use Rattle.sharing.specs.Values as sharing

pub record Marked : Type 0 where
  -- "FCR, held 400: ..", "FCR held 400, one fall 0 to -100: .."
  pub fcr : fcr.Marked
  -- "Call at 0, target 9,000, end 900: ..", four values
  pub mfrr : mfrr.Marked
  -- "Tolerances 5, 5, error 1: ..", two values
  pub sharing : sharing.Marked
