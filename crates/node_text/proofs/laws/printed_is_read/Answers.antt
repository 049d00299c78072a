use Rattle.node_text.proofs.ReadAgain.{bytes_again, keys_again, lives_again, numbers_again}
use Rattle.node_text.proofs.laws.printed_is_read.Goals as goal

pub returns-clause-bytes : goal.returns-clause-bytes
returns-clause-bytes c = bytes_again

pub returns-clause-numbers : goal.returns-clause-numbers
returns-clause-numbers c = numbers_again

pub returns-clause-lives : goal.returns-clause-lives
returns-clause-lives c = lives_again

pub returns-clause-keys : goal.returns-clause-keys
returns-clause-keys c = keys_again
