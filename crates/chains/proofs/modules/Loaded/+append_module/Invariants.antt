use Rattle.chains.proofs.modules.Loaded.+append_module.Given as goal

abbrev pub decreases-append_module : goal.decreases-append_module
decreases-append_module l = l.depth
