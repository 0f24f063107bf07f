use Rattle.std.proofs.Common.{rules, refl, codes}
use Rattle.runs.proofs.Spelled.{spelled_is}
use Rattle.runs.proofs.names.run_of_name.Goals as goal

pub returns-in-allyes : goal.returns-in-allyes
returns-in-allyes c = spelled_is c.args.name.now (codes "allyes") _ refl (search rules) (search rules)

pub returns-in-allmod : goal.returns-in-allmod
returns-in-allmod c = spelled_is c.args.name.now (codes "allmod") _ refl (search rules) (search rules)

pub returns-in-defconfig : goal.returns-in-defconfig
returns-in-defconfig c = spelled_is c.args.name.now (codes "defconfig") _ refl (search rules) (search rules)

pub returns-in-oldconfig : goal.returns-in-oldconfig
returns-in-oldconfig c = spelled_is c.args.name.now (codes "oldconfig") _ refl (search rules) (search rules)

pub returns-in-savedefconfig : goal.returns-in-savedefconfig
returns-in-savedefconfig c = spelled_is c.args.name.now (codes "savedefconfig") _ refl (search rules) (search rules)

pub returns-in-allno : goal.returns-in-allno
returns-in-allno c = spelled_is c.args.name.now (codes "allno") _ refl (search rules) (search rules)
