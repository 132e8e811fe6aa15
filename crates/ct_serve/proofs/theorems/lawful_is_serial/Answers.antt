use Rattle.ct_serve.proofs.Serial.{lawful_serial}
use Rattle.ct_serve.proofs.theorems.lawful_is_serial.Goals as goal

pub returns : goal.returns
returns c = lawful_serial
