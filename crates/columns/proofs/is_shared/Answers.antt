-- `columns::is_shared` meets its contract: two names, and two registers, are the same where the numbers that they are read into are.
use Rattle.columns.proofs.LawsOperands.{name_shared, register_shared}
use Rattle.columns.proofs.is_shared.Goals as goal

pub returns-in-Name : goal.returns-in-Name
returns-in-Name c = rw c.in-Name.is (name_shared _ _ c.args.register)

pub returns-in-Register : goal.returns-in-Register
returns-in-Register c = rw c.in-Register.is (register_shared _ c.args.name _)
