use Rattle.far_migrate.proofs.putting.+put_back.Given as goal

abbrev pub decreases-put_back : goal.decreases-put_back
decreases-put_back g l = l.left
