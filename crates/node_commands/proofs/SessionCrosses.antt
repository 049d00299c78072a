-- A session's work may go to another thread. A lemma for each of its parts, since one search through all of them gives up.
use denote.Param.Send.{IsSend, sendable, view_send}
use denote.Param.SendFields.{declared_send}
use Rattle.std.proofs.Crossing.{crosses, frees, send, sync}
use Rattle.std.proofs.MapsCrossingOver.{crosses as sets}
use Rattle.bytes.proofs.unique.BytesMut.TheSendSync as buffer
use Rattle.table_types.specs.contracts.roster.Roster as Roster
use Rattle.known_state.specs.contracts.state.State as State
use Rattle.peers_msg.specs.contracts.unread.Unread as Unread
use Rattle.peers_msg.specs.contracts.unread.Unread.TheInside as unread
use Rattle.peers_hello.specs.contracts.hello.Hello as Hello
use Rattle.learner.specs.contracts.intake.Intake as Intake
use Rattle.tolerant_intake.specs.contracts.loose_table.LooseTable as LooseTable
use Rattle.tolerant_intake.specs.contracts.tolerance.Tolerance as Tolerance
use Rattle.tolerant_intake.specs.contracts.reader.Reader as Reader
use Rattle.session_core.specs.contracts.phase.Greeter as Greeter
use Rattle.session_core.specs.contracts.phase.Stage as Stage
use Rattle.session_core.specs.contracts.course.Course as Course
use Rattle.session_core.specs.contracts.machine.Machine as Machine
use Rattle.session_core.specs.contracts.pace.Pace as Pace
use Rattle.session_core.specs.contracts.stay.Stay as Stay
use Rattle.session_core.specs.contracts.session.Session as Session
use Rattle.peers_engine.specs.contracts.worker.Worker as Worker
use Rattle.table_shards.proofs.Crosses.{seat_send}
use Rattle.node_commands.specs.contracts.node.sharing.Task as Task
use Rattle.node_commands.proofs.Crosses.{known_send, numbers_send, received_send}

hello_send : IsSend (Hello.the_field).row
hello_send = search (sendable, crosses) depth 80 fits 20000

roster_send : IsSend (Roster.the_field).row
roster_send = search (sendable, crosses) depth 80 fits 20000

state_send : IsSend (State.the_field).row
state_send = search (received_send, numbers_send, sendable, crosses) depth 80 fits 20000

unread_send : IsSend (Unread.the_field).row
unread_send = view_send _ _ _ _ _ (declared_send unread.the_type (buffer.the_send _ _ send sync frees, tt))

intake_send : IsSend (Intake.the_field).row
intake_send = search (roster_send, state_send, unread_send, sendable, crosses, sets) depth 80 fits 20000

loose_table_send : IsSend (LooseTable.the_field).row
loose_table_send = search (sendable, crosses) depth 80 fits 20000

tolerance_send : IsSend (Tolerance.the_field).row
tolerance_send = search (loose_table_send, sendable, crosses, sets) depth 80 fits 20000

reader_send : IsSend (Reader.the_field).row
reader_send = search (intake_send, tolerance_send, sendable, crosses) depth 80 fits 20000

greeter_send : IsSend (Greeter.the_field).row
greeter_send = search (sendable, crosses) depth 80 fits 20000

stage_send : IsSend (Stage.the_field).row
stage_send = search (hello_send, greeter_send, sendable, crosses) depth 80 fits 20000

course_send : IsSend (Course.the_field).row
course_send = search (reader_send, sendable, crosses) depth 80 fits 20000

machine_send : IsSend (Machine.the_field).row
machine_send = search (stage_send, course_send, known_send, sendable, crosses) depth 80 fits 20000

pace_send : IsSend (Pace.the_field).row
pace_send = search (sendable, crosses) depth 80 fits 20000

stay_send : IsSend (Stay.the_field).row
stay_send = search (pace_send, sendable, crosses) depth 80 fits 20000

session_send : IsSend (Session.the_field).row
session_send = search (machine_send, stay_send, sendable, crosses) depth 80 fits 20000

worker_send : IsSend (Worker.the_field).row
worker_send = search (session_send, seat_send, sendable, crosses) depth 80 fits 20000

pub task_send : IsSend (Task.the_field).row
task_send = search (worker_send, sendable, crosses) depth 80 fits 20000
