use Rattle.known_state.proofs.ReadsPay.{reads_pay, marks_fit}
use Rattle.known_state.proofs.laws.reads_pay.Goals as goal

pub returns-clause-pay : goal.returns-clause-pay
returns-clause-pay c = reads_pay

pub returns-clause-marks : goal.returns-clause-marks
returns-clause-marks c = marks_fit
